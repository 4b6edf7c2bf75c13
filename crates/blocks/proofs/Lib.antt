-- Lines and blocks, counted and put together from their parts.
mod Fronts
mod Lines
