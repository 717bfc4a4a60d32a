mod Turn
mod LoadTurn
