-- A buffer that grows keeps its parts. Assumes nothing.
use Rattle.std.proofs.Common.{◌≡◌, ℕ, zero, suc, ◌+◌, ◌≤◌, true, leb, List, [], ◌∷◌, ◌++◌, map, length, take, drop, sym, refl, ap, ◌∙◌, subst, arith, length-drop, take_all, Some, Option}
use Rattle.keyed.specs.Numbers.{under}
use lib.Seq.{take-append-le, drop-append-le, drop-append_seam}
use Rattle.std.proofs.lemmas.List.{map_push}
use Rattle.std.proofs.lemmas.Bool.{and_parts, and_from, leb-true, le-leb}
use Rattle.reports.specs.declared.report.Report.{Report}
use Rattle.byte_store.specs.declared.buffered.Place.{Place}
use Rattle.codes.specs.declared.session.Partition.{Partition}
use Rattle.codes.specs.declared.session.Partition.TheVariants.{One, Two, Three}
use Rattle.partitions.specs.declared.per_partition.PerPartition.{PerPartition}
use Rattle.partitions.specs.PerPartition.{at}
use Rattle.partitions.specs.Series.{grown, mapped, next_of}
use Rattle.partitions.proofs.Totals.{under_mapped, next_mapped}
use Rattle.std.specs.Option.{option_map}
use Rattle.store.specs.Kept.{next_after}
use Rattle.reports.specs.declared.report.Entry.{Entry}
use Rattle.byte_store.specs.Places.{part, filed, entry_in, all_within, Within}

pub part-grown : (b more : List ℕ) (p : Place) → p.start + p.len ≤ length b → part (b ++ more) p ≡ part b p
part-grown b more p h =
    let long = length-drop p.start b in
    ap (take p.len) (drop-append-le p.start b more (omega arith)) ∙ take-append-le p.len (drop p.start b) more
    (omega arith)

pub part-new : (b bs : List ℕ) (p : Place) → p.start ≡ length b → p.len ≡ length bs → part (b ++ bs) p ≡ bs
part-new b bs p s l =
    ap (λ k. take p.len (drop k (b ++ bs))) s ∙ ap (take p.len) (drop-append_seam b bs)
    ∙ take_all p.len bs (omega arith)

parts : (n : ℕ) (p : Place) (ps : List Place) → all_within n (p ∷ ps) ≡ true → (p.start + p.len ≤ n)
    × (all_within n ps ≡ true)
parts n p ps h = let q = and_parts (leb (p.start + p.len) n) (all_within n ps) h in (leb-true _ _ q.0, q.1)

join : (n : ℕ) (p : Place) (ps : List Place) → p.start + p.len ≤ n → all_within n ps ≡ true
    → all_within n (p ∷ ps) ≡ true
join n p ps a b = and_from _ _ (le-leb _ _ a) b

pub within_none : (n : ℕ) → all_within n [] ≡ true
within_none n = refl

pub within_more : (n m : ℕ) (ps : List Place) → n ≤ m → all_within n ps ≡ true → all_within m ps ≡ true
within_more n m [] le h = within_none m
within_more n m (p ∷ ps) le h = let q = parts n p ps h in join m p ps (omega (arith, q.0)) (within_more n m ps le q.1)

pub within-push : (n : ℕ) (ps : List Place) (p : Place) → all_within n ps ≡ true → p.start + p.len ≤ n
    → all_within n (ps ++ (p ∷ [])) ≡ true
within-push n [] p h le = join n p [] le (within_none n)
within-push n (x ∷ ps) p h le = let q = parts n x ps h in join n x (ps ++ (p ∷ [])) q.0 (within-push n ps p q.1 le)

pub within-entry : (n : ℕ) (ps : List Place) (k : ℕ) (p : Place) → all_within n ps ≡ true → under ps k ≡ Some p
    → p.start + p.len ≤ n
within-entry n ps zero p h e = absurd (let z : ◌≡◌ {A = ℕ} 0 1 = cc in let no : ⊥ = omega arith in no)
within-entry n [] (suc k) p h e = absurd (let z : ◌≡◌ {A = ℕ} 0 1 = cc in let no : ⊥ = omega arith in no)
within-entry n (x ∷ ps) (suc zero) p h e =
    let same : x ≡ p = cc in subst (λ (y : Place). y.start + y.len ≤ n) same (parts n x ps h).0
within-entry n (x ∷ ps) (suc (suc k)) p h e = within-entry n ps (suc k) p (parts n x ps h).1 e

-- what is read at places, each by its owner and its bytes
module _ {X : Type 0} (g : ℕ → List ℕ → X) where
  -- it stays as the buffer grows
  pub read-grown : (b more : List ℕ) (n : ℕ) (ps : List Place) → n ≡ length b → all_within n ps ≡ true
      → map (λ (p : Place). g p.owner (part (b ++ more) p)) ps ≡ map (λ (p : Place). g p.owner (part b p)) ps
  read-grown b more n [] e h = refl
  read-grown b more n (p ∷ ps) e h =
      let q = parts n p ps h in
      let here : g p.owner (part (b ++ more) p) ≡ g p.owner (part b p) = ap (g p.owner)
      (part-grown b more p (omega (arith, q.0))) in
      let rest = read-grown b more n ps e q.1 in
      cc

  -- and at a new place the new bytes are read
  pub read-pushed : (b bs : List ℕ) (n : ℕ) (ps : List Place) (p : Place) → n ≡ length b → all_within n ps ≡ true
      → p.start ≡ n → p.len ≡ length bs → map (λ (p : Place). g p.owner (part (b ++ bs) p)) (ps ++ (p ∷ []))
      ≡ map (λ (p : Place). g p.owner (part b p)) ps ++ (g p.owner bs ∷ [])
  read-pushed b bs n ps p e h s l =
      let here : g p.owner (part (b ++ bs) p) ≡ g p.owner bs = ap (g p.owner) (part-new b bs p (s ∙ e) l) in
      map_push (λ (p : Place). g p.owner (part (b ++ bs) p)) ps p
      ∙ ap (λ t. t ++ (g p.owner (part (b ++ bs) p) ∷ [])) (read-grown b bs n ps e h)
      ∙ ap (λ t. map (λ (p : Place). g p.owner (part b p)) ps ++ (t ∷ [])) here

-- the entries there
module _ (d : List ℕ → Report) where
  kept-grown : (b more : List ℕ) (n : ℕ) (ps : List Place) → n ≡ length b → all_within n ps ≡ true
      → map (entry_in d (b ++ more)) ps ≡ map (entry_in d b) ps
  kept-grown = read-grown (λ o bs. filed o (d bs))

  kept-pushed : (b bs : List ℕ) (n : ℕ) (ps : List Place) (p : Place) → n ≡ length b → all_within n ps ≡ true
      → p.start ≡ n → p.len ≡ length bs → map (entry_in d (b ++ bs)) (ps ++ (p ∷ [])) ≡ map (entry_in d b) ps
      ++ (filed p.owner (d bs) ∷ [])
  kept-pushed = read-pushed (λ o bs. filed o (d bs))

-- the same of all partitions
same-kept : (a a' b b' c c' : List Entry) → a ≡ a' → b ≡ b' → c ≡ c'
    → ◌≡◌ {A = PerPartition (List Entry)} (record { one = a; two = b; three = c })
    (record { one = a'; two = b'; three = c' })
same-kept a a' b b' c c' e f h = cc

pub kept_grown : (d : List ℕ → Report) (b b' bs : List ℕ) (n : ℕ) (k : PerPartition (List Place)) (p : Partition)
    (x : Place) → b' ≡ b ++ bs → n ≡ length b → Within n k → x.start ≡ n → x.len ≡ length bs
    → mapped (entry_in d b') (grown k p x) ≡ grown (mapped (entry_in d b) k) p (filed x.owner (d bs))
kept_grown d b b' bs n k p x e long h s l = ap (λ t. mapped (entry_in d t) (grown k p x)) e ∙ by-partition p
  where
    by-partition : (q : Partition) → mapped (entry_in d (b ++ bs)) (grown k q x)
        ≡ grown (mapped (entry_in d b) k) q (filed x.owner (d bs))
    by-partition One =
        same-kept _ _ _ _ _ _ (kept-pushed d b bs n k.one x long (h One) s l) (kept-grown d b bs n k.two long (h Two))
        (kept-grown d b bs n k.three long (h Three))
    by-partition Two =
        same-kept _ _ _ _ _ _ (kept-grown d b bs n k.one long (h One)) (kept-pushed d b bs n k.two x long (h Two) s l)
        (kept-grown d b bs n k.three long (h Three))
    by-partition Three =
        same-kept _ _ _ _ _ _ (kept-grown d b bs n k.one long (h One)) (kept-grown d b bs n k.two long (h Two))
        (kept-pushed d b bs n k.three x long (h Three) s l)

pub within_grown : (n m : ℕ) (k : PerPartition (List Place)) (p : Partition) (x : Place) → Within n k → n ≤ m
    → x.start + x.len ≤ m → Within m (grown k p x)
within_grown n m k One x h le here One = within-push m k.one x (within_more n m k.one le (h One)) here
within_grown n m k One x h le here Two = within_more n m k.two le (h Two)
within_grown n m k One x h le here Three = within_more n m k.three le (h Three)
within_grown n m k Two x h le here One = within_more n m k.one le (h One)
within_grown n m k Two x h le here Two = within-push m k.two x (within_more n m k.two le (h Two)) here
within_grown n m k Two x h le here Three = within_more n m k.three le (h Three)
within_grown n m k Three x h le here One = within_more n m k.one le (h One)
within_grown n m k Three x h le here Two = within_more n m k.two le (h Two)
within_grown n m k Three x h le here Three = within-push m k.three x (within_more n m k.three le (h Three)) here

-- what is found at a partition's places is what is kept there
module _ (d : List ℕ → Report) (b : List ℕ) (k : PerPartition (List Place)) (p : Partition) (l : List Place) where
  pub next_at : (o above : ℕ) (r : Option ℕ) → r ≡ next_of (λ (x : Place). x.owner) l o above → l ≡ at k p → r
      ≡ next_after (at (mapped (entry_in d b) k) p) o above
  next_at o above r e same =
      e ∙ ap (λ t. next_of (λ (x : Place). x.owner) t o above) same ∙ sym
      (next_mapped (entry_in d b) (λ (y : Entry). y.owner) k p o above)

  pub entry_at : (n : ℕ) (x : Place) (e : Entry) → e ≡ entry_in d b x → Some x ≡ under l n → l ≡ at k p → Some e
      ≡ under (at (mapped (entry_in d b) k) p) n
  entry_at n x e is found same =
      ap Some is ∙ ap (option_map (entry_in d b)) (found ∙ ap (λ t. under t n) same) ∙ sym
      (under_mapped (entry_in d b) k p n)

pub entry_within : (m : ℕ) (k : PerPartition (List Place)) (p : Partition) (l : List Place) (n : ℕ) (x : Place)
    → Within m k → Some x ≡ under l n → l ≡ at k p → x.start + x.len ≤ m
entry_within m k p l n x h found same = within-entry m (at k p) n x (h p) (sym (found ∙ ap (λ t. under t n) same))
