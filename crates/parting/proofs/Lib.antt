mod Listing
mod Leaving
mod Grouping
mod Dividing
mod Splitting
