pub mod Predictor
