pub mod TextDigits
