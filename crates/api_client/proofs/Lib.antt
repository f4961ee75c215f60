mod Sent
mod Written
mod Collected
