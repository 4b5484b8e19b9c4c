-- The characters that the profile looks for in keys and values.
use Rattle.std.specs.Prelude.{ℕ}

abbrev pub space : ℕ
space = 32

abbrev pub semicolon : ℕ
semicolon = 59

abbrev pub letter_a : ℕ
letter_a = 97

abbrev pub letter_m : ℕ
letter_m = 109

abbrev pub letter_v : ℕ
letter_v = 118
