mod Passing
mod Declaring
pub mod NamesLaw
pub mod PlacesLaw
pub mod RatesLaw
