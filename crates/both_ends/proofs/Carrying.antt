-- What is under way to a follower, and what it holds: runs of the owner's reports between two marks. Assumes nothing.
use Rattle.std.proofs.Common.{◌≡◌, ◌≢◌, ◌⊎◌, inl, inr, ℕ, ◌<◌, ◌≤◌, max, false, cond, List, [], ◌∷◌, ◌++◌, append_assoc, append-nil, Some, None, Ok, Option, Result, length, pos, refl, sym, ap, ◌∙◌, subst, arith}
use Rattle.std.proofs.lemmas.Option.{none-some}
use Rattle.codes.specs.Session.{same_partition}
use Rattle.codes.specs.declared.session.Partition.{Partition}
use Rattle.codes.specs.declared.session.Partition.TheVariants.{One, Two, Three}
use Rattle.codes.specs.declared.session.ReportResponse.{ReportResponse}
use Rattle.codes.specs.declared.session.ReportResponse.TheVariants as ending
use Rattle.both_ends.proofs.Flights.{Passed, Next, next_within, stays_under, passed_grown, next_grown, passed_on, next_down, next_up}
use Rattle.follower.specs.Hearing.{heard_in}
use Rattle.follower.specs.Numbers.{number_of}
use Rattle.follower.specs.declared.heard.Heard.{Heard}
use Rattle.follower.specs.declared.heard.Heard.TheVariants.{Report, End}
use Rattle.follower.specs.declared.heard.NumberedReport.{NumberedReport}
use Rattle.keyed.specs.Numbers.{under}
use Rattle.layout.specs.declared.fault.Fault.{Fault}
use Rattle.partitions.specs.PerPartition.{at}
use Rattle.partitions.specs.declared.per_partition.PerPartition.{PerPartition}
use Rattle.reports.specs.Told.{told_of}
use Rattle.reports.specs.declared.report.Entry.{Entry}
use Rattle.sessions.specs.Laws.{Grown}
use Rattle.sessions.specs.declared.download.Download.{Download}
use Rattle.store.specs.Kept.{Kept}
use Rattle.venue.proofs.Recording.{same_self}

-- ---- a run of numbers

-- a report as a follower holds it
abbrev pub held : ℕ → Entry → NumberedReport
held n e = record { sequence = pos n; told = told_of e.report }

-- it tells what stands under its number, which is the owner's
pub record Tells (c : ℕ) (l : List Entry) (h : NumberedReport) : Type 0 where
  pub entry : Entry
  pub stands : under l (number_of h) ≡ Some entry
  pub owner : entry.owner ≡ c
  pub told : h ≡ held (number_of h) entry

pub tells_grown : (c : ℕ) (l l' : List Entry) (h : NumberedReport) → Grown l l' → number_of h ≤ length l → Tells c l h
    → Tells c l' h
tells_grown c l l' h g w t =
    record { entry = t.entry; stands = stays_under l l' (number_of h) g w ∙ t.stands; owner = t.owner; told = t.told }

-- reports that tell the owner's next numbers from a mark on, those at or below it passed over, and none is left up to
-- another mark
abbrev pub Run : ℕ → List Entry → ℕ → List NumberedReport → ℕ → Type 0
Run c l a [] y = Passed c l a y
Run c l a (h ∷ hs) y = Tells c l h × Next c l a (number_of h) × Run c l (max a (number_of h)) hs y

pub run_grown : (c : ℕ) (l l' : List Entry) (a : ℕ) (hs : List NumberedReport) (y : ℕ) → Grown l l' → y ≤ length l
    → Run c l a hs y → Run c l' a hs y
run_grown c l l' a [] y g w r = passed_grown c l l' a y g w r
run_grown c l l' a (h ∷ hs) y g w (t, x, r) = (
  tells_grown c l l' h g (next_within c l a (number_of h) x) t,
  next_grown c l l' a (number_of h) g x,
  run_grown c l l' (max a (number_of h)) hs y g w r,
)

-- it begins at any higher mark, which takes what is at or below it along
pub run_up : (c : ℕ) (l : List Entry) (a b : ℕ) (hs : List NumberedReport) (y : ℕ) → a ≤ b → Run c l a hs y → Run c l b hs y
run_up c l a b [] y le r = λ j lt q. r j (omega (arith, lt, le)) q
run_up c l a b (h ∷ hs) y le (t, x, r) = (
  t,
  next_up c l a b (number_of h) le x,
  run_up c l (max a (number_of h)) (max b (number_of h)) hs y (omega (arith, le)) r,
)

-- and at a lower one, where no report of the owner parts the two
pub run_down : (c : ℕ) (l : List Entry) (a b : ℕ) (hs : List NumberedReport) (y : ℕ) → Passed c l a b → Run c l b hs y
    → Run c l a hs y
run_down c l a b [] y p r = passed_on c l a b y p r
run_down c l a b (h ∷ hs) y p (t, x, r) = (
  t,
  next_down c l a b (number_of h) p x,
  run_down c l (max a (number_of h)) (max b (number_of h)) hs y
      (λ j lt le. p j (omega (arith, lt)) (omega (arith, lt, le))) r,
)

-- it reaches another mark, where whatever passes the one passes the other
pub run_to : (c : ℕ) (l : List Entry) (a : ℕ) (hs : List NumberedReport) (y z : ℕ)
    → ((b : ℕ) → a ≤ b → Passed c l b y → Passed c l b z) → Run c l a hs y → Run c l a hs z
run_to c l a [] y z on r = on a (omega arith) r
run_to c l a (h ∷ hs) y z on (t, x, r) =
    (t, x, run_to c l (max a (number_of h)) hs y z (λ b le. on b (omega (arith, le))) r)

-- as one behind which no report of the owner's is up to it
pub run_on : (c : ℕ) (l : List Entry) (a : ℕ) (hs : List NumberedReport) (y z : ℕ) → Passed c l y z → Run c l a hs y
    → Run c l a hs z
run_on c l a hs y z p r = run_to c l a hs y z (λ b le q. passed_on c l b y z q p) r

-- or the number of a report that was passed already
pub run_past : (c : ℕ) (l : List Entry) (a : ℕ) (hs : List NumberedReport) (y n : ℕ) → n ≤ a → Run c l a hs y
    → Run c l a hs (max y n)
run_past c l a hs y n le r = run_to c l a hs y (max y n) (λ b ab p j lt q. p j lt (omega (arith, le, ab, lt, q))) r

-- the next report comes behind it
pub run_more : (c : ℕ) (l : List Entry) (a : ℕ) (hs : List NumberedReport) (y : ℕ) (h : NumberedReport) → Tells c l h
    → Next c l y (number_of h) → Run c l a hs y → Run c l a (hs ++ h ∷ []) (max y (number_of h))
run_more c l a [] y h t x r = (
  t,
  next_down c l a y (number_of h) r x,
  λ j lt le. r j (omega (arith, lt)) (omega (arith, lt, le)),
)
run_more c l a (g ∷ hs) y h t x (t', x', r) = (t', x', run_more c l (max a (number_of g)) hs y h t x r)

-- so it reaches the number of that report
pub run_last : (c : ℕ) (l : List Entry) (a : ℕ) (hs : List NumberedReport) (y : ℕ) (h : NumberedReport) → Tells c l h
    → Next c l y (number_of h) → Run c l a hs y → Run c l a (hs ++ h ∷ []) (number_of h)
run_last c l a hs y h t x r =
    run_to c l a (hs ++ h ∷ []) (max y (number_of h)) (number_of h)
    (λ b le p j lt q. p j lt (omega (arith, q))) (run_more c l a hs y h t x r)

-- ---- the reports of a partition among messages

-- what is heard of a partition's reports
abbrev pub told_to : Partition → Result Heard Fault → List NumberedReport
told_to p (Ok (Report q h)) = cond (same_partition p q) (h ∷ []) []
told_to p r = []

abbrev pub reports_of : Partition → List (List ℕ) → List NumberedReport
reports_of p [] = []
reports_of p (m ∷ ms) = told_to p (heard_in m) ++ reports_of p ms

pub reports_more : (p : Partition) (ms more : List (List ℕ)) → reports_of p (ms ++ more) ≡ reports_of p ms ++ reports_of p more
reports_more p [] more = refl
reports_more p (m ∷ ms) more =
    ap (λ hs. told_to p (heard_in m) ++ hs) (reports_more p ms more)
    ∙ sym (append_assoc (told_to p (heard_in m)) (reports_of p ms) (reports_of p more))

-- one message more
pub reports_behind : (p : Partition) (ms : List (List ℕ)) (m : List ℕ) (hs : List NumberedReport) → told_to p (heard_in m) ≡ hs
    → reports_of p (ms ++ m ∷ []) ≡ reports_of p ms ++ hs
reports_behind p ms m hs e =
    reports_more p ms (m ∷ []) ∙ ap (λ z. reports_of p ms ++ z) (append-nil (told_to p (heard_in m)) ∙ e)

pub told_here : (p : Partition) (m : List ℕ) (h : NumberedReport) → heard_in m ≡ Ok (Report p h)
    → told_to p (heard_in m) ≡ h ∷ []
told_here p m h e = ap (told_to p) e ∙ ap (λ b. cond b (h ∷ []) []) (same_self p)

pub same_or_not : (p q : Partition) → (p ≡ q) ⊎ (p ≢ q)
same_or_not One One = inl refl
same_or_not One Two = inr (λ e. cc)
same_or_not One Three = inr (λ e. cc)
same_or_not Two One = inr (λ e. cc)
same_or_not Two Two = inl refl
same_or_not Two Three = inr (λ e. cc)
same_or_not Three One = inr (λ e. cc)
same_or_not Three Two = inr (λ e. cc)
same_or_not Three Three = inl refl

unlike : (p q : Partition) → p ≢ q → same_partition q p ≡ false
unlike One One ne = absurd (ne refl)
unlike One Two ne = refl
unlike One Three ne = refl
unlike Two One ne = refl
unlike Two Two ne = absurd (ne refl)
unlike Two Three ne = refl
unlike Three One ne = refl
unlike Three Two ne = refl
unlike Three Three ne = absurd (ne refl)

pub told_apart : (p q : Partition) (m : List ℕ) (h : NumberedReport) → heard_in m ≡ Ok (Report p h) → p ≢ q
    → told_to q (heard_in m) ≡ []
told_apart p q m h e ne = ap (told_to q) e ∙ ap (λ b. cond b (h ∷ []) []) (unlike p q ne)

-- a report of a partition is in front, and comes behind: so it is of that partition alone
pub record Front (p : Partition) (h : NumberedReport) (ms rest : List (List ℕ)) : Type 0 where
  pub here : reports_of p ms ≡ h ∷ reports_of p rest
  pub others : (q : Partition) → p ≢ q → reports_of q ms ≡ reports_of q rest

pub front : (p : Partition) (h : NumberedReport) (m : List ℕ) (rest : List (List ℕ)) → heard_in m ≡ Ok (Report p h)
    → Front p h (m ∷ rest) rest
front p h m rest e = record {
  here = ap (λ z. z ++ reports_of p rest) (told_here p m h e);
  others = λ q ne. ap (λ z. z ++ reports_of q rest) (told_apart p q m h e ne);
}

pub record Back (p : Partition) (h : NumberedReport) (ms : List (List ℕ)) (m : List ℕ) : Type 0 where
  pub here : reports_of p (ms ++ m ∷ []) ≡ reports_of p ms ++ h ∷ []
  pub others : (q : Partition) → p ≢ q → reports_of q (ms ++ m ∷ []) ≡ reports_of q ms

pub back : (p : Partition) (h : NumberedReport) (ms : List (List ℕ)) (m : List ℕ) → heard_in m ≡ Ok (Report p h)
    → Back p h ms m
back p h ms m e = record {
  here = reports_behind p ms m (h ∷ []) (told_here p m h e);
  others = λ q ne. reports_behind q ms m [] (told_apart p q m h e ne) ∙ append-nil (reports_of q ms);
}

-- ---- how far was sent

-- it moves on where no report of the owner is
pub record Moves (c : ℕ) (l : List Entry) (s s' : ℕ) : Type 0 where
  pub within : s' ≤ length l
  pub up : s ≤ s'
  pub passed : Passed c l s s'

-- or to the next one
pub record Sent (c : ℕ) (k : Kept) (sent sent' : PerPartition ℕ) (q : Partition) (n : ℕ) : Type 0 where
  pub above : at sent q < n
  pub next : Next c (at k q) (at sent q) n
  pub mark : at sent' q ≡ n
  pub others : (p : Partition) → q ≢ p → Moves c (at k p) (at sent p) (at sent' p)

-- ---- the recovery channel

-- the end of a download: complete only where it went as far as it was to
abbrev pub Over : ReportResponse → ℕ → ℕ → Type 0
Over ending.Complete y aim = y ≡ aim
Over ending.MessageLimit y aim = Unit {0}
Over ending.ServiceUnavailable y aim = Unit {0}

-- a download of a partition that has handed out all up to a mark
pub record Runs (p : Partition) (d : Download) (y aim : ℕ) : Type 0 where
  pub partition : d.partition ≡ p
  pub last : d.last ≡ y
  pub target : d.target ≡ aim

-- messages that are the reports of a partition, up to a mark, and behind them the end of its download, or what is left of it
abbrev pub Delivery : Partition → Option Download → List (List ℕ) → List NumberedReport → ℕ → ℕ → Type 0
Delivery p o [] hs y aim = (hs ≡ []) × ((o ≡ None) ⊎ ((d : Download) × (o ≡ Some d) × Runs p d y aim))
Delivery p o (m ∷ ms) hs y aim =
    ((r : ReportResponse) × (heard_in m ≡ Ok (End r)) × (ms ≡ []) × (o ≡ None) × (hs ≡ []) × Over r y aim)
    ⊎ ((h : NumberedReport) × (is : List NumberedReport) × (heard_in m ≡ Ok (Report p h)) × (hs ≡ h ∷ is)
    × Delivery p o ms is y aim)

-- messages that are reports of a partition
abbrev pub OfPart : Partition → List (List ℕ) → List NumberedReport → Type 0
OfPart p [] hs = hs ≡ []
OfPart p (m ∷ ms) hs =
    (h : NumberedReport) × (is : List NumberedReport) × (heard_in m ≡ Ok (Report p h)) × (hs ≡ h ∷ is) × OfPart p ms is

same_some : {A : Type 0} (a b : A) → Some a ≡ Some b → a ≡ b
same_some a b e = cc

pub same_heard : (a b : Heard) (r : Result Heard Fault) → r ≡ Ok a → r ≡ Ok b → a ≡ b
same_heard a b r e f = cc

pub heard_apart : {X : Type 0} (m : List ℕ) (a b : Heard) → heard_in m ≡ Ok a → heard_in m ≡ Ok b → (a ≡ b → ⊥) → X
heard_apart m a b h g ne = absurd (ne (same_heard a b (heard_in m) h g))

-- the download hands out the owner's next report
pub record Further (d d' : Download) (n : ℕ) : Type 0 where
  pub partition : d'.partition ≡ d.partition
  pub target : d'.target ≡ d.target
  pub last : d'.last ≡ n

module _ (p : Partition) where
  -- the line is cut: nothing more comes behind what is under way
  pub delivery_cut : (o : Option Download) (ms : List (List ℕ)) (hs : List NumberedReport) (y aim : ℕ)
      → Delivery p o ms hs y aim → Delivery p None ms hs y aim
  delivery_cut o [] hs y aim (e, h) = (e, inl refl)
  delivery_cut o (m ∷ ms) hs y aim (inl (r, h, e, z, n, v)) = inl (r, h, e, refl, n, v)
  delivery_cut o (m ∷ ms) hs y aim (inr (h, is, e, n, q)) = inr (h, is, e, n, delivery_cut o ms is y aim q)

  -- the download that runs has handed out what is under way
  pub delivery_runs : (d : Download) (ms : List (List ℕ)) (hs : List NumberedReport) (y aim : ℕ)
      → Delivery p (Some d) ms hs y aim → Runs p d y aim
  delivery_runs d [] hs y aim (n, inl e) = absurd (none-some d (sym e))
  delivery_runs d [] hs y aim (n, inr (d', e, r)) = subst (λ u. Runs p u y aim) (sym (same_some d d' e)) r
  delivery_runs d (m ∷ ms) hs y aim (inl (r, h, e, z, n, v)) = absurd (none-some d (sym z))
  delivery_runs d (m ∷ ms) hs y aim (inr (h, is, e, n, q)) = delivery_runs d ms is y aim q

  -- it hands out a report
  pub delivery_more : (d d' : Download) (ms : List (List ℕ)) (hs : List NumberedReport) (y aim : ℕ) (m : List ℕ)
      (h : NumberedReport) → Further d d' (number_of h) → heard_in m ≡ Ok (Report p h) → Delivery p (Some d) ms hs y aim
      → Delivery p (Some d') (ms ++ m ∷ []) (hs ++ h ∷ []) (number_of h) aim
  delivery_more d d' [] hs y aim m h f g (n, q) =
      let r = delivery_runs d [] hs y aim (n, q) in
      inr (
        h,
        [],
        g,
        ap (λ z. z ++ h ∷ []) n,
        (
          refl,
          inr (
            d',
            refl,
            record {
              partition = f.partition ∙ r.partition;
              last = f.last;
              target = f.target ∙ r.target;
            },
          ),
        ),
      )
  delivery_more d d' (i ∷ ms) hs y aim m h f g (inl (r, a, e, z, n, v)) = absurd (none-some d (sym z))
  delivery_more d d' (i ∷ ms) hs y aim m h f g (inr (j, is, e, n, q)) =
      inr (j, is ++ h ∷ [], e, ap (λ z. z ++ h ∷ []) n, delivery_more d d' ms is y aim m h f g q)

  -- it ends
  pub delivery_end : (d : Download) (ms : List (List ℕ)) (hs : List NumberedReport) (y z aim : ℕ) (m : List ℕ)
      (r : ReportResponse) → heard_in m ≡ Ok (End r) → Over r z aim → Delivery p (Some d) ms hs y aim
      → Delivery p None (ms ++ m ∷ []) hs z aim
  delivery_end d [] hs y z aim m r g v (n, q) = inl (r, g, refl, refl, n, v)
  delivery_end d (i ∷ ms) hs y z aim m r g v (inl (r', a, e, n, u, w)) = absurd (none-some d (sym n))
  delivery_end d (i ∷ ms) hs y z aim m r g v (inr (j, is, e, n, q)) =
      inr (j, is, e, n, delivery_end d ms is y z aim m r g v q)

  -- ---- what is at the front of it

  module _ (o : Option Download) (m : List ℕ) (ms : List (List ℕ)) (hs : List NumberedReport) (y aim : ℕ)
      (q : Delivery p o (m ∷ ms) hs y aim) where
    -- a report is of its partition
    pub delivery_part : (u : Partition) (h : NumberedReport) → heard_in m ≡ Ok (Report u h) → u ≡ p
    delivery_part u h e = by q
      where
        part : (i : NumberedReport) → Report u h ≡ Report p i → u ≡ p
        part i z = cc

        by : Delivery p o (m ∷ ms) hs y aim → u ≡ p
        by (inl (r, g, n, z, w, v)) = heard_apart m (Report u h) (End r) e g (λ i. cc)
        by (inr (i, is, g, n, w)) = part i (same_heard (Report u h) (Report p i) (heard_in m) e g)

    -- and the first of those under way
    pub delivery_next : (h : NumberedReport) → heard_in m ≡ Ok (Report p h)
        → (is : List NumberedReport) × (hs ≡ h ∷ is) × Delivery p o ms is y aim
    delivery_next h e = by q
      where
        told : (i : NumberedReport) → Report p i ≡ Report p h → i ≡ h
        told i z = cc

        by : Delivery p o (m ∷ ms) hs y aim → (is : List NumberedReport) × (hs ≡ h ∷ is) × Delivery p o ms is y aim
        by (inl (r, g, n, z, w, v)) = heard_apart m (Report p h) (End r) e g (λ i. cc)
        by (inr (i, is, g, n, w)) =
            (is, n ∙ ap (λ z. z ∷ is) (told i (same_heard (Report p i) (Report p h) (heard_in m) g e)), w)

    -- its end is the last
    pub delivery_over : (r : ReportResponse) → heard_in m ≡ Ok (End r)
        → (ms ≡ []) × (o ≡ None) × (hs ≡ []) × Over r y aim
    delivery_over r e = by q
      where
        same : (i : ReportResponse) → End i ≡ End r → i ≡ r
        same i z = cc

        by : Delivery p o (m ∷ ms) hs y aim → (ms ≡ []) × (o ≡ None) × (hs ≡ []) × Over r y aim
        by (inl (i, g, n, z, w, v)) =
            (n, z, w, subst (λ j. Over j y aim) (same i (same_heard (End i) (End r) (heard_in m) g e)) v)
        by (inr (i, is, g, n, w)) = heard_apart m (End r) (Report p i) e g (λ j. cc)

    -- and nothing else is there
    pub delivery_other : {X : Type 0} (h : Heard) → heard_in m ≡ Ok h → ((r : ReportResponse) → h ≡ End r → ⊥)
        → ((i : NumberedReport) → h ≡ Report p i → ⊥) → X
    delivery_other {X} h e n1 n2 = by q
      where
        by : Delivery p o (m ∷ ms) hs y aim → X
        by (inl (r, g, n, z, w, v)) = heard_apart m h (End r) e g (n1 r)
        by (inr (i, is, g, n, w)) = heard_apart m h (Report p i) e g (n2 i)
