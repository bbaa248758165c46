mod Splits
mod Examples
