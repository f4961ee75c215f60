pub mod KeptItems
