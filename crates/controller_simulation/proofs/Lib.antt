mod Ended
mod Lifted
mod Placed
mod Replayed
