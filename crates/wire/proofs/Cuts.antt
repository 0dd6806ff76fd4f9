-- A stream is cut one way, however it comes in chunks. Assumes nothing.
use Rattle.std.proofs.Common.{◌≡◌, ◌≢◌, ℕ, zero, suc, ◌+◌, ◌-◌, ◌^◌, ◌<◌, ◌≤◌, ◌&&◌, ◌||◌, Bool, true, false, cond, eqb, ltb, List, [], ◌∷◌, ◌++◌, length, take, drop, Some, None, Ok, Err, Option, Result, is_ok, sym, refl, ap, subst, ◌∙◌, append_assoc, length-append, arith, eqb-true, eq-eqb, leb-true}
use Rattle.std.specs.List.{concat}
use Rattle.std.proofs.lemmas.Bool.{le-ltb, ltb-false, ltb-true, and_parts}
use Rattle.std.proofs.lemmas.List.{take-append-drop, take-take, take_all, length-take-le, length-drop, append-nil}
use Rattle.std.proofs.Math.Seq.{take-append-add, take-append_seam, drop-append_seam}
use Rattle.texts.specs.Bytes.{le, part}
use Rattle.layout.specs.declared.fault.Fault.{Fault}
use Rattle.layout.specs.declared.fault.Fault.TheVariants as fault
use Rattle.wire.specs.declared.kinds.Channel.{Channel}
use Rattle.wire.specs.declared.kinds.Kind.{Kind}
use Rattle.wire.specs.declared.stream.Next.TheVariants as next
use Rattle.wire.specs.declared.stream.StreamFault.{StreamFault}
use Rattle.wire.specs.Kinds.{total_of, takes}
use Rattle.wire.specs.Messages.{opening, stated, sized}
use Rattle.wire.specs.Streams.{Front, Splitting, Feeds, IsCut, OneCut, front, begun, sized_as, later, fresh, pending, start, front_with, given, answer_by, fault_in, reached, standing, IsOpen}
use Rattle.wire.specs.Streams.Front.{unfinished, message, broken}
use Rattle.wire.specs.Streams.Feeds.{ends, uses, hands, stops}
use Rattle.wire.proofs.Sound.{sound}
use Rattle.wire.proofs.Fronts.{broken_is, message_is, message_on, message_in, broken_on, message_self}

-- a header that says how long its message is
kept : (b : Bool) (r : Result ℕ Fault) (x : Fault) (n : ℕ) → cond b r (Err x) ≡ Ok n → (b ≡ true) × (r ≡ Ok n)
kept true r x n e = (refl, e)
kept false r x n e = cc

sized_is : (head : List ℕ) (o : Option Kind) (n : ℕ) → sized_as head o ≡ Ok n
    → (k : Kind) × (o ≡ Some k) × (stated head ≡ total_of k) × (n ≡ total_of k)
sized_is head None n e = cc
sized_is head (Some k) n e =
    let q = kept (eqb (stated head) (total_of k)) (Ok (total_of k)) fault.Length n e in
    let t : n ≡ total_of k = let g = q.1 in cc in
    (k, refl, eqb-true (stated head) (total_of k) q.0, t)

-- the bytes of a message by its header pass the reader's checks
opened : (ch : Channel) (p : List ℕ) (n : ℕ) → begun ch (take 4 p) ≡ Ok n → length p ≡ n → 4 ≤ length p
    → is_ok (opening ch p) ≡ true
unfolding opening begun
opened ch [] n e l h = absurd (omega arith)
opened ch (a ∷ []) n e l h = absurd (omega arith)
opened ch (a ∷ b ∷ []) n e l h = absurd (omega arith)
opened ch (a ∷ b ∷ c ∷ []) n e l h = absurd (omega arith)
opened ch (a ∷ b ∷ c ∷ d ∷ t) n e l h =
    let p = a ∷ b ∷ c ∷ d ∷ t in
    let head = a ∷ b ∷ c ∷ d ∷ [] in
    let q = kept (eqb (le (part 0 1 head)) 2) (sized_as head (takes ch (le (part 3 1 head)))) fault.Start n e in
    let s = sized_is head (takes ch (le (part 3 1 head))) n q.1 in
    let k = s.0 in
    let u : stated p ≡ total_of k = s.2 in
    let v : stated p ≡ length p = u ∙ sym s.3 ∙ sym l in
    let x = le-ltb (length p) 4 h in
    let y = le-ltb (length p) (stated p) (omega arith) in
    let z = q.0 in
    let w = s.1 in
    let f = eq-eqb (stated p) (total_of k) u in
    let g = eq-eqb (stated p) (length p) v in
    rw (x, y, z, w, f, g) refl

-- and back
past : (b : Bool) (r : Result Kind Fault) (x : Fault) → is_ok (cond b (Err x) r) ≡ true → (b ≡ false) × (is_ok r ≡ true)
past true r x e = cc
past false r x e = (refl, e)

goes : (b : Bool) (r : Result Kind Fault) (x : Fault) → is_ok (cond b r (Err x)) ≡ true → (b ≡ true) × (is_ok r ≡ true)
goes true r x e = (refl, e)
goes false r x e = cc

sized_ok : (bs : List ℕ) (o : Option Kind) → is_ok (sized bs o) ≡ true
    → (k : Kind) × (o ≡ Some k) × (stated bs ≡ total_of k) × (stated bs ≡ length bs)
sized_ok bs None e = cc
sized_ok bs (Some k) e =
    let q = goes (eqb (stated bs) (total_of k) && eqb (stated bs) (length bs)) (Ok k) fault.Length e in
    let c = and_parts (eqb (stated bs) (total_of k)) (eqb (stated bs) (length bs)) q.0 in
    (k, refl, eqb-true (stated bs) (total_of k) c.0, eqb-true (stated bs) (length bs) c.1)

or_parts : (a b : Bool) → (a || b) ≡ false → (a ≡ false) × (b ≡ false)
or_parts true b e = cc
or_parts false b e = (refl, e)

headed_by : (ch : Channel) (p : List ℕ) (k : Kind) → 4 ≤ length p → eqb (le (part 0 1 p)) 2 ≡ true
    → takes ch (le (part 3 1 p)) ≡ Some k → stated p ≡ total_of k → stated p ≡ length p
    → begun ch (take 4 p) ≡ Ok (length p)
unfolding begun
headed_by ch [] k h a b c d = absurd (omega arith)
headed_by ch (x ∷ []) k h a b c d = absurd (omega arith)
headed_by ch (x ∷ y ∷ []) k h a b c d = absurd (omega arith)
headed_by ch (x ∷ y ∷ z ∷ []) k h a b c d = absurd (omega arith)
headed_by ch (x ∷ y ∷ z ∷ w ∷ t) k h a b c d =
    let p = x ∷ y ∷ z ∷ w ∷ t in
    let f = eq-eqb (stated p) (total_of k) c in
    let g : total_of k ≡ length p = sym c ∙ d in
    rw (a, b, f) (ap Ok g)

headed : (ch : Channel) (p : List ℕ) → is_ok (opening ch p) ≡ true → (4 ≤ length p) × (begun ch (take 4 p) ≡ Ok (length p))
unfolding opening
headed ch p e =
    let r = cond (eqb (le (part 0 1 p)) 2) (sized p (takes ch (le (part 3 1 p)))) (Err fault.Start) in
    let q = past (ltb (length p) 4 || ltb (length p) (stated p)) r fault.Short e in
    let o = or_parts (ltb (length p) 4) (ltb (length p) (stated p)) q.0 in
    let h = ltb-false (length p) 4 o.0 in
    let t = goes (eqb (le (part 0 1 p)) 2) (sized p (takes ch (le (part 3 1 p)))) fault.Start q.1 in
    let s = sized_ok p (takes ch (le (part 3 1 p))) t.1 in
    (h, headed_by ch p s.0 h t.0 s.1 s.2 s.3)

least : (ch : Channel) (head : List ℕ) (n : ℕ) → begun ch head ≡ Ok n → 4 ≤ n
unfolding begun
least ch head n e =
    let q = kept (eqb (le (part 0 1 head)) 2) (sized_as head (takes ch (le (part 3 1 head)))) fault.Start n e in
    let s = sized_is head (takes ch (le (part 3 1 head))) n q.1 in
    let k = leb-true 4 (total_of s.0) (sound s.0).short in
    let t = s.3 in
    omega arith

-- a message stands at the front of all that it begins
piece_front : (ch : Channel) (p t : List ℕ) → is_ok (opening ch p) ≡ true → front ch (p ++ t) ≡ message (length p)
piece_front ch p t e = let q = headed ch p e in message_on ch p t (length p) (message_self ch p q.0 q.1)

-- a stream is cut in one way
first_front : (ch : Channel) (stream x : List ℕ) (ps : List (List ℕ)) (r : List ℕ) → IsCut ch stream (x ∷ ps) r
    → front ch stream ≡ message (length x)
first_front ch stream x ps r a =
    ap (front ch) (sym a.whole ∙ append_assoc x (concat ps) r) ∙ piece_front ch x (concat ps ++ r) a.each.0

cut_once : (ch : Channel) (stream : List ℕ) (ps qs : List (List ℕ)) (r q : List ℕ) → IsCut ch stream ps r
    → IsCut ch stream qs q → (ps ≡ qs) × (r ≡ q)
cut_once ch stream [] [] r q a b = (refl, a.whole ∙ sym b.whole)
cut_once ch stream [] (y ∷ qs) r q a b =
    absurd (a.last (length y) (ap (front ch) a.whole ∙ first_front ch stream y qs q b))
cut_once ch stream (x ∷ ps) [] r q a b =
    absurd (b.last (length x) (ap (front ch) b.whole ∙ first_front ch stream x ps r a))
cut_once ch stream (x ∷ ps) (y ∷ qs) r q a b =
    let S = concat ps ++ r in
    let T = concat qs ++ q in
    let e : x ++ S ≡ y ++ T = sym (append_assoc x (concat ps) r) ∙ a.whole ∙ sym b.whole ∙ append_assoc y (concat qs) q in
    let m : message (length x) ≡ message (length y) = sym (first_front ch stream x ps r a) ∙ first_front ch stream y qs q b in
    let l : length x ≡ length y = cc in
    let f : x ≡ y = sym (take-append_seam x S) ∙ ap (take (length x)) e ∙ ap (λ n. take n (y ++ T)) l
    ∙ take-append_seam y T in
    let g : S ≡ T = sym (drop-append_seam x S) ∙ ap (drop (length x)) e ∙ ap (λ n. drop n (y ++ T)) l
    ∙ drop-append_seam y T in
    let i = cut_once ch S ps qs r q
    (record { whole = refl; each = a.each.1; last = a.last })
    (record { whole = sym g; each = b.each.1; last = b.last }) in
    let j = i.0 in
    (cc, i.1)

-- a splitter that has no message but one that it handed out
abbrev Waits : Splitting → Type 0
Waits s = (n : ℕ) → front s.channel (pending s) ≢ message n

answer_more : (at k : ℕ) (f : Front) → answer_by at k f ≡ next.Unfinished → f ≡ unfinished
answer_more at k unfinished e = refl
answer_more at k (message n) e = cc
answer_more at k (broken x) e = cc

answer_whole : (at k n : ℕ) (f : Front) → answer_by at k f ≡ next.Message n → (m : ℕ) × (f ≡ message m) × (n ≡ m - k)
answer_whole at k n unfinished e = cc
answer_whole at k n (message m) e = (m, refl, cc)
answer_whole at k n (broken x) e = cc

answer_broken : (at k : ℕ) (f : Front) (x : StreamFault) → answer_by at k f ≡ next.Fault x → (y : Fault) × (f ≡ broken y)
answer_broken at k unfinished x e = cc
answer_broken at k (message m) x e = cc
answer_broken at k (broken y) x e = (y, refl)

-- what it then is, by what stands at the front
abbrev with_more : Splitting → List ℕ → Splitting
with_more s c = record { channel = s.channel; at = start s; held = pending s ++ c; handed = false }

abbrev with_whole : Splitting → List ℕ → ℕ → Splitting
with_whole s c m = record { channel = s.channel; at = start s; held = take m (pending s ++ c); handed = true }

given_more : (s : Splitting) (c : List ℕ) → front_with s c ≡ unfinished → given s c ≡ with_more s c
given_more s c e =
    let all = pending s ++ c in
    rw e (ap (λ h. record { channel = s.channel; at = start s; held = h; handed = false })
    (take_all (length all) all (omega arith)))

given_whole : (s : Splitting) (c : List ℕ) (m : ℕ) → front_with s c ≡ message m → given s c ≡ with_whole s c m
given_whole s c m e = rw e refl

waits_more : (s : Splitting) (c : List ℕ) → front_with s c ≡ unfinished → Waits (given s c)
waits_more s c e =
    let W : Waits (with_more s c) = λ n h. cc in
    subst Waits (sym (given_more s c e)) W

waits_whole : (s : Splitting) (c : List ℕ) (m : ℕ) → front_with s c ≡ message m → Waits (given s c)
waits_whole s c m e =
    let W : Waits (with_whole s c m) = λ n h. let q = (message_is s.channel [] n h).0 in omega arith in
    subst Waits (sym (given_whole s c m e)) W

-- a message that stands there has bytes of the chunk
beyond_by : (s : Splitting) (c : List ℕ) (m : ℕ) (t : Bool) → front_with s c ≡ message m → Waits s → 4 ≤ m
    → ltb (length (pending s)) m ≡ t → length (pending s) < m
beyond_by s c m true e w l b = ltb-true (length (pending s)) m b
beyond_by s c m false e w l b =
    let h = ltb-false (length (pending s)) m b in
    absurd (w m (message_in s.channel (pending s) c m e h (omega arith)))

beyond : (s : Splitting) (c : List ℕ) (m : ℕ) → front_with s c ≡ message m → Waits s
    → (4 ≤ m) × (length (pending s) < m) × (m ≤ length (pending s) + length c)
beyond s c m e w =
    let q = message_is s.channel (pending s ++ c) m e in
    let l = least s.channel (take 4 (pending s ++ c)) m q.1 in
    let b = beyond_by s c m (ltb (length (pending s)) m) e w l refl in
    let a = length-append (pending s) c in
    let n = q.2 in
    (l, b, omega arith)

-- what a call leaves is open, by what the splitter's bytes stand for
none_by : (k : ℕ) (f : Front) → Ok None ≡ standing k f → f ≡ unfinished
none_by k unfinished s = refl
none_by k (message m) s = cc
none_by k (broken x) s = cc

some_by : (k n : ℕ) (f : Front) → Ok (Some n) ≡ standing k f → (m : ℕ) × (f ≡ message m) × (n ≡ m - k)
some_by k n unfinished s = cc
some_by k n (message m) s = (m, refl, cc)
some_by k n (broken x) s = cc

err_by : (k : ℕ) (x : Fault) (f : Front) → Err x ≡ standing k f → f ≡ broken x
err_by k x unfinished s = cc
err_by k x (message m) s = cc
err_by k x (broken y) s = cc

pub open_empty : (ch : Channel) (held : List ℕ) → held ≡ [] → IsOpen ch held false
open_empty ch held e b n m = let q = (message_is ch [] n (ap (front ch) (sym e) ∙ m)).0 in omega arith

pub open_more : (ch : Channel) (h c held : List ℕ) → held ≡ reached ch (h ++ c)
    → Ok None ≡ standing (length h) (front ch (h ++ c)) → IsOpen ch held false
open_more ch h c held e s b n m =
    let all = h ++ c in
    let u = none_by (length h) (front ch all) s in
    let w : reached ch all ≡ all = rw u (take_all (length all) all (omega arith)) in
    let k : front ch all ≡ message n = ap (front ch) (sym w ∙ sym e) ∙ m in
    cc

pub open_broken : (ch : Channel) (h c held : List ℕ) (x : Fault) → held ≡ reached ch (h ++ c)
    → Err x ≡ standing (length h) (front ch (h ++ c)) → IsOpen ch held false
open_broken ch h c held x e s b n m =
    let all = h ++ c in
    let u = err_by (length h) x (front ch all) s in
    let w : reached ch all ≡ take 4 all = rw u refl in
    let q = (broken_is ch all x u).1 in
    let p = (message_is ch held n m).1 in
    let t : take 4 held ≡ take 4 all = ap (take 4) (e ∙ w) ∙ take-take 4 4 all (omega arith) in
    let g = ap (begun ch) t in
    cc

pub fits : (ch : Channel) (h c : List ℕ) (n : ℕ) → IsOpen ch h false
    → Ok (Some n) ≡ standing (length h) (front ch (h ++ c)) → (0 < n) × (n ≤ length c)
fits ch h c n o s =
    let a = some_by (length h) n (front ch (h ++ c)) s in
    let t : Splitting = record { channel = ch; at = 0; held = h; handed = false } in
    let b = beyond t c a.0 a.1 (o refl) in
    (omega arith, omega arith)

-- what chunks come to
abbrev Outcome : Splitting → List (List ℕ) → List (List ℕ) → List ℕ → ℕ → Type 0
Outcome s cs ps rest at = IsCut s.channel (pending s ++ concat cs) ps rest × (at ≡ later (start s) (length (concat ps)))

joined : (p c x y z r : List ℕ) (n : ℕ) → x ++ r ≡ drop n c ++ z → ((p ++ take n c) ++ x) ++ r ≡ p ++ (c ++ z)
joined p c x y z r n e =
    append_assoc (p ++ take n c) x r ∙ ap (λ t. (p ++ take n c) ++ t) e ∙ append_assoc p (take n c) (drop n c ++ z)
    ∙ ap (λ t. p ++ t) (sym (append_assoc (take n c) (drop n c) z) ∙ ap (λ t. t ++ z) (take-append-drop n c))

hands_out : (s : Splitting) (c : List ℕ) (cs ps : List (List ℕ)) (rest : List ℕ) (at m n : ℕ)
    → front_with s c ≡ message m → n ≡ m - length (pending s) → Waits s
    → Outcome (with_whole s c m) (drop n c ∷ cs) ps rest at
    → Outcome s (c ∷ cs) (take m (pending s ++ c) ∷ ps) rest at
hands_out s c cs ps rest at m n e d w i =
    let p = pending s in
    let b = beyond s c m e w in
    let q = message_is s.channel (p ++ c) m e in
    let k : m ≡ length p + n = omega arith in
    let f : take m (p ++ c) ≡ p ++ take n c = ap (λ t. take t (p ++ c)) k ∙ take-append-add p c n in
    let u = length-take-le m (p ++ c) q.2 in
    let h = b.0 in
    let g : begun s.channel (take 4 (take m (p ++ c))) ≡ Ok m = ap (begun s.channel) (take-take 4 m (p ++ c) h) ∙ q.1 in
    let o = opened s.channel (take m (p ++ c)) m g u (omega arith) in
    let a = length-append (take m (p ++ c)) (concat ps) in
    let j = i.1 in (
      record {
        whole = ap (λ t. (t ++ concat ps) ++ rest) f ∙ joined p c (concat ps) [] (concat cs) rest n i.0.whole;
        each = (o, i.0.each);
        last = i.0.last;
      },
      omega arith,
    )

feeds : {s : Splitting} {cs ps : List (List ℕ)} {rest : List ℕ} {at : ℕ} → Feeds s cs ps rest at → Waits s
    → start s ≤ 2 ^ 64 - 1 → Outcome s cs ps rest at
feeds (ends s) w l = (record { whole = sym (append-nil (pending s)); each = tt; last = w }, omega arith)
feeds (uses s c cs ps rest at e f) w l =
    let u = answer_more (start s) (length (pending s)) (front_with s c) e in
    let g = given_more s c u in
    let B : Splitting → Type 0 = λ t. start t ≤ 2 ^ 64 - 1 in
    let i = feeds f (waits_more s c u) (subst B (sym g) l) in
    let O : Splitting → Type 0 = λ t. Outcome t cs ps rest at in
    let j = subst O g i in (
      record { whole = j.0.whole ∙ append_assoc (pending s) c (concat cs); each = j.0.each; last = j.0.last },
      j.1,
    )
feeds (hands s c cs ps rest at n e f) w l =
    let a = answer_whole (start s) (length (pending s)) n (front_with s c) e in
    let m = a.0 in
    let g = given_whole s c m a.1 in
    let B : Splitting → Type 0 = λ t. start t ≤ 2 ^ 64 - 1 in
    let b : B (with_whole s c m) = omega arith in
    let i = feeds f (waits_whole s c m a.1) (subst B (sym g) b) in
    let O : Splitting → Type 0 = λ t. Outcome t (drop n c ∷ cs) ps rest at in
    let j = hands_out s c cs ps rest at m n a.1 a.2 w (subst O g i) in
    let R : List ℕ → Type 0 = λ t. Outcome s (c ∷ cs) (t ∷ ps) rest at in
    subst R (sym (ap (λ t. t.held) g)) j
feeds (stops s c cs x e) w l =
    let a = answer_broken (start s) (length (pending s)) (front_with s c) x e in
    let b = broken_on s.channel (pending s ++ c) (concat cs) a.0 a.1 in
    let f = ap (front s.channel) (append_assoc (pending s) c (concat cs)) in
    (record { whole = refl; each = tt; last = λ n h. cc }, omega arith)

-- chunks are given to an end
abbrev Fed : Splitting → List (List ℕ) → Type 0
Fed s cs = (ps : List (List ℕ)) × (rest : List ℕ) × (at : ℕ) × Feeds s cs ps rest at

feed_one : (cs : List (List ℕ)) → ((t : Splitting) → Waits t → Fed t cs) → (fuel : ℕ) (s : Splitting) (c : List ℕ)
    → (f : Front) → front_with s c ≡ f → length c ≤ fuel → Waits s → Fed s (c ∷ cs)
feed_one cs then fuel s c unfinished e h w =
    let i = then (given s c) (waits_more s c e) in
    (i.0, i.1, i.2, uses s c cs i.0 i.1 i.2 (ap (answer_by (start s) (length (pending s))) e) i.3)
feed_one cs then zero s c (message m) e h w = let b = beyond s c m e w in absurd (omega arith)
feed_one cs then (suc k) s c (message m) e h w =
    let b = beyond s c m e w in
    let n = m - length (pending s) in
    let d = length-drop n c in
    let i = feed_one cs then k (given s c) (drop n c) (front_with (given s c) (drop n c)) refl (omega arith)
    (waits_whole s c m e) in (
      (given s c).held ∷ i.0,
      i.1,
      i.2,
      hands s c cs i.0 i.1 i.2 n (ap (answer_by (start s) (length (pending s))) e) i.3,
    )
feed_one cs then fuel s c (broken y) e h w = (
  [],
  pending s ++ concat (c ∷ cs),
  start s,
  stops s c cs (fault_in (start s) y) (ap (answer_by (start s) (length (pending s))) e),
)

feed : (cs : List (List ℕ)) (s : Splitting) → Waits s → Fed s cs
feed [] s w = ([], pending s, start s, ends s)
feed (c ∷ cs) s w = feed_one cs (λ t v. feed cs t v) (length c) s c (front_with s c) refl (omega arith) w

waits_fresh : (ch : Channel) → Waits (fresh ch)
waits_fresh ch n h = let q = (message_is ch [] n h).0 in omega arith

pub one_cut : OneCut
one_cut = record {
  fed = λ ch cs. feed cs (fresh ch) (waits_fresh ch);
  cut = λ ch cs ps rest at f. feeds f (waits_fresh ch) (omega arith);
  once = cut_once;
}
