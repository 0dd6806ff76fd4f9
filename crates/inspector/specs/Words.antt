-- The words of a line: blanks stand between them. Assumes nothing.
use Rattle.std.specs.Prelude.{ℕ, Bool, not, ◌||◌, List, take, drop, ◌==◌}
use Rattle.std.specs.List.{prefix_len}

-- a space, a tab, or what ends a line
abbrev pub is_blank : ℕ → Bool
is_blank b = b == 32 || b == 9 || b == 13 || b == 10

abbrev pub is_solid : ℕ → Bool
is_solid b = not (is_blank b)

-- a line from its first byte that is not blank
abbrev pub past_blanks : List ℕ → List ℕ
past_blanks bs = drop (prefix_len is_blank bs) bs

-- its first word, and what stands behind that
abbrev pub first_word : List ℕ → List ℕ
first_word bs = take (prefix_len is_solid (past_blanks bs)) (past_blanks bs)

abbrev pub after_word : List ℕ → List ℕ
after_word bs = drop (prefix_len is_solid (past_blanks bs)) (past_blanks bs)
