-- Writing undoes reading. Assumes nothing.
use Rattle.std.proofs.Common.{Err, Fits, IfOk, List, None, Ok, Option, Result, Some, [], ap, arith, get_or, leb-true, length, take, w8, suc, ℕ, ◌*◌, ◌++◌, ◌+◌, ◌-◌, ◌∙◌, ◌∷◌, ◌≡◌, ◌≤◌}
use Rattle.layout.proofs.Tables.{all_ok}
use Rattle.layout.specs.Layout.{first_bad, Says}
use Rattle.layout.specs.Writing.{encode, header}
use Rattle.layout.specs.declared.fault.Fault.TheVariants as fault
use Rattle.layout.specs.declared.fault.Fault.{Fault}
use Rattle.std.specs.Option.{option_map}
use Rattle.texts.specs.Bytes.{le, to_le, part}
use Rattle.wire.proofs.Again.{Bytes, to_le_le, bytes_take, write_all}
use Rattle.wire.proofs.Headers.{opened_by}
use Rattle.wire.proofs.Sound.{sound}
use Rattle.wire.specs.Kinds.{letter_of, total_of, table_of}
use Rattle.wire.specs.Messages.{kind_of, contents_of, opening, Reads, WasRead, Again, stated}
use Rattle.wire.specs.declared.kinds.Channel.{Channel}
use Rattle.wire.specs.declared.kinds.Kind.{Kind}
use Rattle.wire.specs.declared.message.Message.{Message}

-- a header that passes is written as it stood
four : (letter total : ℕ) (bs : List ℕ) → 4 ≤ length bs → Bytes bs → le (part 0 1 bs) ≡ 2 → stated bs ≡ total → letter
    ≡ le (part 3 1 bs) → header letter total ≡ take 4 bs
four letter total [] h b s t l = absurd (omega arith)
four letter total (b₀ ∷ []) h b s t l = absurd (omega arith)
four letter total (b₀ ∷ b₁ ∷ []) h b s t l = absurd (omega arith)
four letter total (b₀ ∷ b₁ ∷ b₂ ∷ []) h b s t l = absurd (omega arith)
four letter total (b₀ ∷ b₁ ∷ b₂ ∷ b₃ ∷ bs) h b s t l =
    let n : total - 3 ≡ b₁ + 256 * (b₂ + 256 * 0) = omega (arith, t) in
    let c = bytes_take 2 (b₁ ∷ b₂ ∷ b₃ ∷ bs) (λ i. b (suc i)) in
    let q : to_le 2 (total - 3) ≡ b₁ ∷ b₂ ∷ [] = ap (to_le 2) n ∙ to_le_le (b₁ ∷ b₂ ∷ []) c in
    let z : b₀ ≡ 2 = omega (arith, s) in
    let w : letter ≡ b₃ = omega (arith, l) in
    ap (λ x. 2 ∷ x ++ (letter ∷ [])) q ∙ rw (z, w)

pub front : (ch : Channel) (k : Kind) (bs : List ℕ) → Bytes bs → opening ch bs ≡ Ok k
    → (header (letter_of k) (total_of k) ≡ take 4 bs) × (length bs ≡ total_of k)
front ch k bs b e =
    let o = opened_by ch k bs e in
    let h = leb-true 4 (total_of k) (sound k).short in
    (four (letter_of k) (total_of k) bs (omega (arith, h, o.2)) b o.0 o.1 o.3, o.2)

no_fault : (o : Option ℕ) → option_map (λ at. fault.Field at) o ≡ None → o ≡ None
no_fault None e = cc
no_fault (Some n) e = cc

written_again : (ch : Channel) (bs : List ℕ) (m : Message) → ((i : ℕ) → Fits w8 (get_or bs i 0)) → Reads ch bs m
    → Again bs m
unfolding Says
written_again ch bs m t r =
    let b : Bytes bs = λ i. (t i).fits in
    let k = kind_of m in
    let g = no_fault (first_bad (table_of k) bs) (rw r.opens at r.passes) in
    let f = front ch k bs b r.opens in
    let l : total_of k ≤ length bs = omega (arith, f.1) in
    let e = write_all (table_of k) bs (total_of k) b l (sound k).spans (all_ok (table_of k) bs g) in
    ap (λ x. x ++ encode (table_of k) (contents_of m)) f.0 ∙ ap (λ x. take 4 bs ++ x)
    (ap (encode (table_of k)) r.says ∙ e)

pub again : (ch : Channel) (bs : List ℕ) (r : Result Message Fault) → ((i : ℕ) → Fits w8 (get_or bs i 0))
    → WasRead ch bs r → IfOk r (λ m. Again bs m)
again ch bs (Ok m) t h = written_again ch bs m t h
again ch bs (Err e) t h = tt
