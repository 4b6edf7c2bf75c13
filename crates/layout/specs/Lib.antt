-- What one look at each transistor leaves in the work area, and what each part of it leaves.
pub mod Layout
pub mod Look
