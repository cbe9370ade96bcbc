mod Cells
mod Wholes
