mod KnownTexts
mod LineTexts
