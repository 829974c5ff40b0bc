mod Notes
mod Back
