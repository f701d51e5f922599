mod Kept
mod Costs
