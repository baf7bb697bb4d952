mod Headers
mod RootSteps
mod PieceSteps
mod Assembling
mod Stands
mod HeldParts
