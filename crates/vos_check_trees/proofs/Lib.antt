mod NodeFields
mod NodeHeights
mod Rows
mod Below
