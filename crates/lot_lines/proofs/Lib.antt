pub mod SheetLineLaws
