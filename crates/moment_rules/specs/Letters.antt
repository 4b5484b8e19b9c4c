-- The characters of moments and conditional values.
use Rattle.std.specs.Prelude.{ℕ}

abbrev pub space : ℕ
space = 32

abbrev pub open_parenthesis : ℕ
open_parenthesis = 40

abbrev pub close_parenthesis : ℕ
close_parenthesis = 41

abbrev pub comma : ℕ
comma = 44

abbrev pub hyphen : ℕ
hyphen = 45

abbrev pub digit_zero : ℕ
digit_zero = 48

abbrev pub semicolon : ℕ
semicolon = 59

abbrev pub at_sign : ℕ
at_sign = 64
