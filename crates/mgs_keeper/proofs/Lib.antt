mod Faults
mod Printing
mod Rows
mod Starting
