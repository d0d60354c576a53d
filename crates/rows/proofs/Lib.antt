pub mod FirstPlaces
pub mod RowsOfAttributes
