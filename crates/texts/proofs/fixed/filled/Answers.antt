use Rattle.std.proofs.Common.{◌≡◌, ℕ, List, ◌-◌, ◌++◌, length, drop, replicate, ap, ◌∙◌}
use Rattle.std.proofs.lemmas.List.{drop-replicate}
use Rattle.texts.specs.Bytes.{said, is_text, named, padded, text_end}
use Rattle.texts.proofs.Padding.{length-padded, is_text-padded, said-padded, named-padded, lead-padded}
use Rattle.texts.proofs.fixed.filled.Goals as goal

pub returns : goal.returns
returns g c =
    let t = c.args.text.now in
    let v : c.copy_from_slice.new.self ++ drop (length t) (replicate g.row.N 0) ≡ padded g.row.N t =
    rw (drop-replicate {X = ℕ} (length t) g.row.N 0)
    (ap (λ (xs : List ℕ). xs ++ replicate (g.row.N - length t) 0) c.copy_from_slice.ensures.after) in
    record {
      value = v;
      wide = ap length v ∙ length-padded g.row.N t c.requires.short;
      text = ap is_text v ∙ is_text-padded g.row.N t c.requires.printable;
      said = ap said v ∙ said-padded g.row.N t c.requires.printable;
      ends = ap text_end v ∙ lead-padded t (g.row.N - length t) c.requires.printable;
      named = λ h. ap named v ∙ named-padded g.row.N t c.requires.printable h;
    }
