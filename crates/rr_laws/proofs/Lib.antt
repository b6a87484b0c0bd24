pub mod Adding
mod Opened
mod TrainSales
pub mod LeavesAuction
pub mod Leaving
pub mod StockLeaves
pub mod RoundLeaves
pub mod TurnLeaves
pub mod ForcedLeaves
pub mod Joining
pub mod StockOrder
pub mod ForcedOrder
pub mod MaySell
pub mod RaiseOrder
mod SoundTables
mod AuctionAdds
mod BestCommands
mod BestEntries
mod Revenues
mod WorkedRevenueRows
mod KeptTurn
mod TurnSoFar
mod TurnsPlayed
mod Dividends
mod RightDividends
mod SheetVerdicts
mod EachVerdict
mod Sparing
mod Wanting
mod SoldAlong
pub mod SizeLemmas
pub mod SoundnessLemmas
pub mod TurnsLemmas
