pub mod OnState
