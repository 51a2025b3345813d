pub mod ShelfStatus
