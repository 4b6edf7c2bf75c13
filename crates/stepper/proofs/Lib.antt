-- From what the parts of a step leave in the work area to the step.
mod Drawn
mod Told
mod Begins
mod Fills
mod Tables
mod Steps
mod Whole
