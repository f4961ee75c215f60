-- Read ReadsLead and WritesLead first: reads and commands of a last turn lead to what is there. FirstCommands and CollectorEnds make empty plans of that, Ends what is declared.
pub mod PlanesPass
pub mod ReadsLead
pub mod WritesLead
pub mod FirstCommands
pub mod CollectorEnds
pub mod Ends
