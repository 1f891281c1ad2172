mod Contents
mod Images
mod Numbered
