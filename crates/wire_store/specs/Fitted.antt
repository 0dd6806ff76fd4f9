-- A text as its field holds it. Assumes nothing.
use Rattle.std.specs.Prelude.{◌≡◌, ℕ, ◌-◌, Bool, true, false, List, [], length, nat_le, if◌then◌else◌}
use Rattle.std.proofs.Common.{refl, sym, leb-true, le-leb, arith}
use Rattle.std.proofs.lemmas.Bool.{and_parts, and_from}
use Rattle.texts.specs.declared.fixed.FixedText.{FixedText}
use Rattle.texts.specs.Bytes.{all_printable, padded}
use Rattle.texts.specs.Texts.{fitting}
use Rattle.texts.proofs.Padding.{length-padded, is_text-padded, lead-padded}

-- the text, where it fits
abbrev pub fit : ℕ → List ℕ → List ℕ
fit N t = if fitting N t then t else []

fits_by : (N : ℕ) (t : List ℕ) (b : Bool) → fitting N t ≡ b → fitting N (if b then t else []) ≡ true
fits_by N t true e = e
fits_by N t false e = and_from (nat_le 0 N) true (le-leb 0 N (omega arith)) refl

pub fits : (N : ℕ) (t : List ℕ) → fitting N (fit N t) ≡ true
fits N t = fits_by N t (fitting N t) refl

-- a text that fits is kept as it is, and any other as nothing
abbrev pub fitted : (N : ℕ) → List ℕ → FixedText N
fitted N t =
    let h = and_parts (nat_le (length (fit N t)) N) (all_printable (fit N t)) (fits N t) in
    record {
      bytes = padded N (fit N t);
      end = length (fit N t);
      wide = length-padded N (fit N t) (leb-true _ _ h.0);
      text = is_text-padded N (fit N t) h.1;
      ends = sym (lead-padded (fit N t) (N - length (fit N t)) h.1);
    }
