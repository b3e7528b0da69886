mod Standing
mod Passing
mod Storing
mod Judging
