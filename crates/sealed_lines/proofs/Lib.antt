pub mod Texts
pub mod SealedTexts
pub mod AcceptedTexts
pub mod LineByLine
