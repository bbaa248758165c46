mod Checking
mod Tabled
