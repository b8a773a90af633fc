mod Names
mod Flags
mod Depth
mod Pending
mod Works
mod Gone
mod Turned
mod Tops
