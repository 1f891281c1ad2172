pub mod Line
pub mod PlaceText
pub mod Puts
pub mod Text
pub mod TimesText
