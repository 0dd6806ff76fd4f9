-- A buffer that is a log: one report more is appended, and what stands at its places. Assumes nothing.
use Rattle.std.proofs.Common.{◌≡◌, ℕ, zero, suc, ◌+◌, true, List, [], ◌∷◌, ◌++◌, map, length, length-append, sym, refl, ap, ◌∙◌, arith}
use Rattle.std.specs.List.{slice_get}
use Rattle.std.specs.Option.{option_map}
use Rattle.std.proofs.Math.Logic.{∥∥₁_elim, ∥∥₁_map}
use Rattle.std.proofs.Props.{props}
use Rattle.codes.specs.declared.session.Partition.{Partition}
use Rattle.codes.specs.declared.session.Partition.TheVariants.{One, Two, Three}
use Rattle.keyed.specs.Numbers.{under}
use Rattle.partitions.specs.declared.per_partition.PerPartition.{PerPartition}
use Rattle.partitions.specs.PerPartition.{at, for_each}
use Rattle.partitions.specs.Series.{grown}
use Rattle.partitions.proofs.Totals.{at_mapped, under_mapped}
use Rattle.reports.specs.declared.report.Entry.{Entry}
use Rattle.reports.specs.declared.report.Report.{Report}
use Rattle.store.specs.Kept.{Kept, empty}
use Rattle.byte_store.specs.declared.buffered.Place.{Place}
use Rattle.byte_store.specs.Places.{part, filed, all_within, Within}
use Rattle.byte_store.specs.Logs.{Appended, entries_of, message_of, bytes_of, places_of, IsLog, Messages}
use Rattle.byte_store.proofs.Parts.{read-grown, read-pushed, within_grown}

-- ---- entries under numbers that count up, as bytes

numbered : (ℕ → Report → List ℕ) → ℕ → List Entry → List (List ℕ)
numbered f n [] = []
numbered f n (e ∷ es) = f n e.report ∷ numbered f (n + 1) es

numbered-push : (f : ℕ → Report → List ℕ) (n : ℕ) (es : List Entry) (e : Entry) → numbered f n (es ++ (e ∷ []))
    ≡ numbered f n es ++ (f (n + length es) e.report ∷ [])
unfolding numbered
numbered-push f n [] e = ap (λ k. f k e.report ∷ []) (let z : n ≡ n + 0 = omega arith in z)
numbered-push f n (x ∷ es) e =
    ap (λ t. f n x.report ∷ t) (numbered-push f (n + 1) es e
    ∙ ap (λ k. numbered f (n + 1) es ++ (f k e.report ∷ []))
    (let z : n + 1 + length es ≡ n + length (x ∷ es) = omega arith in z))

numbered-get : (f : ℕ → Report → List ℕ) (n : ℕ) (es : List Entry) (i : ℕ) → slice_get (numbered f n es) i
    ≡ option_map (λ e. f (n + i) e.report) (slice_get es i)
unfolding numbered
numbered-get f n [] i = refl
numbered-get f n (x ∷ es) zero = ap (λ k. option_map (λ (e : Entry). f k e.report) (slice_get (x ∷ es) 0))
    (let z : n ≡ n + 0 = omega arith in z)
numbered-get f n (x ∷ es) (suc i) = numbered-get f (n + 1) es i
    ∙ ap (λ k. option_map (λ (e : Entry). f k e.report) (slice_get es i))
    (let z : n + 1 + i ≡ n + suc i = omega arith in z)

numbered-under : (f : ℕ → Report → List ℕ) (es : List Entry) (n : ℕ) → under (numbered f 1 es) n
    ≡ option_map (λ e. f n e.report) (under es n)
numbered-under f es zero = refl
numbered-under f es (suc i) = numbered-get f 1 es i
    ∙ ap (λ k. option_map (λ (e : Entry). f k e.report) (slice_get es i)) (let z : 1 + i ≡ suc i = omega arith in z)

-- ---- what stands at the places of a log

-- one message more, at the places of its own partition and of another one
pushed : (f : ℕ → Report → List ℕ) (b m : List ℕ) (ps : List Place) (es : List Entry) (x : Place) (e : Entry)
    → all_within (length b) ps ≡ true → map (part b) ps ≡ numbered f 1 es → m ≡ f (length es + 1) e.report
    → x.start ≡ length b → x.len ≡ length m → map (part (b ++ m)) (ps ++ (x ∷ [])) ≡ numbered f 1 (es ++ (e ∷ []))
pushed f b m ps es x e w h is s l =
    read-pushed (λ o bs. bs) b m (length b) ps x refl w s l ∙ ap (λ t. t ++ (m ∷ [])) h
    ∙ ap (λ t. numbered f 1 es ++ (t ∷ []))
    (is ∙ ap (λ k. f k e.report) (let z : length es + 1 ≡ 1 + length es = omega arith in z))
    ∙ sym (numbered-push f 1 es e)

stayed : (f : ℕ → Report → List ℕ) (b m : List ℕ) (ps : List Place) (es : List Entry)
    → all_within (length b) ps ≡ true → map (part b) ps ≡ numbered f 1 es → map (part (b ++ m)) ps ≡ numbered f 1 es
stayed f b m ps es w h = read-grown (λ o bs. bs) b m (length b) ps refl w ∙ h

module _ (coded : Partition → ℕ → Report → List ℕ) where
  -- at the places of each partition stand the messages of its entries
  Stand : List ℕ → PerPartition (List Place) → Kept → Type 0
  Stand b k es = (q : Partition) → map (part b) (at k q) ≡ numbered (coded q) 1 (at es q)

  one_more : (p : Partition) (b m : List ℕ) (k : PerPartition (List Place)) (es : Kept) (x : Place) (e : Entry)
      → Within (length b) k → Stand b k es → m ≡ coded p (length (at es p) + 1) e.report → x.start ≡ length b
      → x.len ≡ length m → Stand (b ++ m) (grown k p x) (grown es p e)
  unfolding Stand
  one_more One b m k es x e w h is s l One = pushed (coded One) b m k.one es.one x e (w One) (h One) is s l
  one_more One b m k es x e w h is s l Two = stayed (coded Two) b m k.two es.two (w Two) (h Two)
  one_more One b m k es x e w h is s l Three = stayed (coded Three) b m k.three es.three (w Three) (h Three)
  one_more Two b m k es x e w h is s l One = stayed (coded One) b m k.one es.one (w One) (h One)
  one_more Two b m k es x e w h is s l Two = pushed (coded Two) b m k.two es.two x e (w Two) (h Two) is s l
  one_more Two b m k es x e w h is s l Three = stayed (coded Three) b m k.three es.three (w Three) (h Three)
  one_more Three b m k es x e w h is s l One = stayed (coded One) b m k.one es.one (w One) (h One)
  one_more Three b m k es x e w h is s l Two = stayed (coded Two) b m k.two es.two (w Two) (h Two)
  one_more Three b m k es x e w h is s l Three = pushed (coded Three) b m k.three es.three x e (w Three) (h Three) is s l

  log_within : (log : List Appended) → Within (length (bytes_of coded log)) (places_of coded log)
  log_within [] One = refl
  log_within [] Two = refl
  log_within [] Three = refl
  log_within (x ∷ log) q =
      let long = length-append (bytes_of coded log) (message_of coded x log) in
      within_grown (length (bytes_of coded log)) _ (places_of coded log) x.partition _ (log_within log) (omega arith)
      (omega arith) q

  log_stands : (log : List Appended) → Stand (bytes_of coded log) (places_of coded log) (entries_of log)
  unfolding Stand numbered
  log_stands [] One = refl
  log_stands [] Two = refl
  log_stands [] Three = refl
  log_stands (x ∷ log) q =
      one_more x.partition (bytes_of coded log) (message_of coded x log) (places_of coded log) (entries_of log) _ x.entry
      (log_within log) (log_stands log) refl refl refl q

  -- what is kept under a number is there as the bytes of its message
  pub message_at : (b : List ℕ) (k : PerPartition (List Place)) (es : Kept) → ∥ IsLog coded b k es ∥₁ → (p : Partition)
      (n : ℕ) → option_map (λ e. coded p n e.report) (under (at es p) n) ≡ option_map (part b) (under (at k p) n)
  unfolding Stand
  message_at b k es h p n = ∥∥₁_elim h (hlevel props) by
    where
      by : IsLog coded b k es → option_map (λ e. coded p n e.report) (under (at es p) n)
          ≡ option_map (part b) (under (at k p) n)
      by (log, ib, ik, ie) =
          sym (numbered-under (coded p) (at es p) n)
          ∙ ap (λ (t : Kept). under (numbered (coded p) 1 (at t p)) n) ie
          ∙ ap (λ l. under l n) (sym (log_stands log p))
          ∙ ap (λ (t : PerPartition (List Place)). under (map (part (bytes_of coded log)) (at t p)) n) (sym ik)
          ∙ ap (λ c. under (map (part c) (at k p)) n) (sym ib)
          ∙ ap (λ l. under l n) (sym (at_mapped (part b) k p))
          ∙ under_mapped (part b) k p n

  -- ---- as a log grows

  pub log_none : ∥ IsLog coded [] (for_each []) empty ∥₁
  log_none = ∣ ([], refl, refl, refl) ∣₁

  pub log_more : (b b' bs : List ℕ) (k k' : PerPartition (List Place)) (es es' : Kept) (p : Partition) (x : Place)
      (r : Report) → ∥ IsLog coded b k es ∥₁ → bs ≡ coded p (length (at es p) + 1) r → b' ≡ b ++ bs
      → x.start ≡ length b → x.len ≡ length bs → k' ≡ grown k p x → es' ≡ grown es p (filed x.owner r)
      → ∥ IsLog coded b' k' es' ∥₁
  log_more b b' bs k k' es es' p x r h is eb s l ek ee = ∥∥₁_map h more
    where
      more : IsLog coded b k es → IsLog coded b' k' es'
      more (log, ib, ik, ie) =
          let same : bs ≡ coded p (length (at (entries_of log) p) + 1) r = is ∙ ap
          (λ (t : Kept). coded p (length (at t p) + 1) r) ie in (
            record { partition = p; entry = filed x.owner r } ∷ log,
            eb ∙ ap (λ t. t ++ bs) ib ∙ ap (λ t. bytes_of coded log ++ t) same,
            ek ∙ ap (λ t. grown t p x) ik
                ∙ ap (λ n. grown (places_of coded log) p (record { owner = x.owner; start = n; len = x.len }))
                (s ∙ ap length ib)
                ∙ ap (λ n. grown (places_of coded log) p (record {
                  owner = x.owner;
                  start = length (bytes_of coded log);
                  len = n;
                })) (l ∙ ap length same),
            ee ∙ ap (λ t. grown t p (filed x.owner r)) ie,
          )

  pub log_messages : (b : List ℕ) (k : PerPartition (List Place)) (es : Kept) → ∥ IsLog coded b k es ∥₁
      → Messages coded es b
  log_messages b k es h = ∥∥₁_map h (λ (log, ib, ik, ie). (log, ie, ib))
