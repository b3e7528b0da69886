pub mod Entrances
