mod Numbers
mod Pairs
mod Prefixes
mod Strange
