mod OpeningLines
mod InitialLines
