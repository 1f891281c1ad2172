mod Drawing
mod OneList
