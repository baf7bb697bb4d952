mod Each
mod Below
mod Quiet
mod AtRest
