pub mod VerdictTexts
