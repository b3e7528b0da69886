pub mod InstrumentTable
