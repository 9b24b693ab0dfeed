mod Attached
mod Queues
mod Turns
mod MarkedLines
mod Cycles
mod Violations
