pub mod Creates
pub mod MadeNames
