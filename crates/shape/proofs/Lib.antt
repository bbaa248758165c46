mod Sums
mod Fans
