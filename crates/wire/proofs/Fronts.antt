-- What stands at the front of a stream, and what a splitter takes of it. Assumes nothing.
use Rattle.std.proofs.Common.{◌≡◌, ℕ, ◌+◌, ◌-◌, ◌<◌, ◌≤◌, Bool, true, false, cond, ltb, List, ◌++◌, length, take, drop, Ok, Err, Result, sym, refl, ap, ◌∙◌, append_assoc, length-append, arith}
use Rattle.std.proofs.lemmas.Bool.{lt-ltb, le-ltb, ltb-false, ltb-true}
use Rattle.std.proofs.Math.Seq.{take-append-add}
use Rattle.std.proofs.lemmas.List.{take-append-drop, take-append-le, take-take, take_all, length-take}
use Rattle.layout.specs.declared.fault.Fault.{Fault}
use Rattle.layout.specs.declared.fault.Fault.TheVariants as fault
use Rattle.wire.specs.declared.kinds.Channel.{Channel}
use Rattle.wire.specs.Streams.{Front, front, front_by, begun, reached, end_fault}
use Rattle.wire.specs.Streams.Front.{unfinished, message, broken}

front_short : (ch : Channel) (bs : List ℕ) → length bs < 4 → front ch bs ≡ unfinished
unfolding front
front_short ch bs h = rw (lt-ltb (length bs) 4 h)

front_long : (ch : Channel) (bs : List ℕ) → 4 ≤ length bs → front ch bs ≡ front_by (begun ch (take 4 bs)) (length bs)
unfolding front
front_long ch bs h = rw (le-ltb (length bs) 4 h)

-- what is at the front, by what the first four bytes say
message_of : (ch : Channel) (bs : List ℕ) (n : ℕ) → 4 ≤ length bs → begun ch (take 4 bs) ≡ Ok n → n ≤ length bs
    → front ch bs ≡ message n
message_of ch bs n h b l = front_long ch bs h ∙ ap (λ r. front_by r (length bs)) b ∙ (rw (le-ltb (length bs) n l))

more_of : (ch : Channel) (bs : List ℕ) (n : ℕ) → 4 ≤ length bs → begun ch (take 4 bs) ≡ Ok n → length bs < n
    → front ch bs ≡ unfinished
more_of ch bs n h b l = front_long ch bs h ∙ ap (λ r. front_by r (length bs)) b ∙ (rw (lt-ltb (length bs) n l))

broken_of : (ch : Channel) (bs : List ℕ) (e : Fault) → 4 ≤ length bs → begun ch (take 4 bs) ≡ Err e
    → front ch bs ≡ broken e
broken_of ch bs e h b = front_long ch bs h ∙ ap (λ r. front_by r (length bs)) b

-- and back
by_test : (b : Bool) (f : Front) (n : ℕ) → cond b unfinished f ≡ message n → (b ≡ false) × (f ≡ message n)
by_test true f n e = cc
by_test false f n e = (refl, e)

by_test_broken : (b : Bool) (f : Front) (x : Fault) → cond b unfinished f ≡ broken x → (b ≡ false) × (f ≡ broken x)
by_test_broken true f x e = cc
by_test_broken false f x e = (refl, e)

by_total : (r : Result ℕ Fault) (given n : ℕ) → front_by r given ≡ message n → (r ≡ Ok n) × (n ≤ given)
by_total (Err x) given n e = cc
by_total (Ok total) given n e =
    let q = by_test (ltb given total) (message total) n e in
    let t : total ≡ n = let m = q.1 in cc in
    let l = ltb-false given total q.0 in
    (ap Ok t, omega arith)

broken_total : (r : Result ℕ Fault) (given : ℕ) (x : Fault) → front_by r given ≡ broken x → r ≡ Err x
broken_total (Err y) given x e = let q : y ≡ x = cc in ap Err q
broken_total (Ok total) given x e = let q = by_test_broken (ltb given total) (message total) x e in let m = q.1 in cc

pub message_is : (ch : Channel) (bs : List ℕ) (n : ℕ) → front ch bs ≡ message n
    → (4 ≤ length bs) × (begun ch (take 4 bs) ≡ Ok n) × (n ≤ length bs)
unfolding front
message_is ch bs n e =
    let q = by_test (ltb (length bs) 4) (front_by (begun ch (take 4 bs)) (length bs)) n e in
    let t = by_total (begun ch (take 4 bs)) (length bs) n q.1 in
    (ltb-false (length bs) 4 q.0, t.0, t.1)

pub broken_is : (ch : Channel) (bs : List ℕ) (x : Fault) → front ch bs ≡ broken x
    → (4 ≤ length bs) × (begun ch (take 4 bs) ≡ Err x)
unfolding front
broken_is ch bs x e =
    let q = by_test_broken (ltb (length bs) 4) (front_by (begun ch (take 4 bs)) (length bs)) x e in
    (ltb-false (length bs) 4 q.0, broken_total (begun ch (take 4 bs)) (length bs) x q.1)

-- a message, or what is none, stays so whatever comes behind it
pub message_on : (ch : Channel) (bs cs : List ℕ) (n : ℕ) → front ch bs ≡ message n → front ch (bs ++ cs) ≡ message n
message_on ch bs cs n e =
    let q = message_is ch bs n e in
    let h = q.0 in
    let l = q.2 in
    let k = length-append bs cs in
    message_of ch (bs ++ cs) n (omega arith) (ap (begun ch) (take-append-le 4 bs cs h) ∙ q.1) (omega arith)

pub broken_on : (ch : Channel) (bs cs : List ℕ) (x : Fault) → front ch bs ≡ broken x → front ch (bs ++ cs) ≡ broken x
broken_on ch bs cs x e =
    let q = broken_is ch bs x e in
    let h = q.0 in
    let k = length-append bs cs in
    broken_of ch (bs ++ cs) x (omega arith) (ap (begun ch) (take-append-le 4 bs cs h) ∙ q.1)

pub message_self : (ch : Channel) (bs : List ℕ) → 4 ≤ length bs → begun ch (take 4 bs) ≡ Ok (length bs)
    → front ch bs ≡ message (length bs)
message_self ch bs h b = message_of ch bs (length bs) h b (omega arith)

-- a message that lies in the front of bytes stands at the front of that
pub message_in : (ch : Channel) (bs cs : List ℕ) (n : ℕ) → front ch (bs ++ cs) ≡ message n → n ≤ length bs
    → 4 ≤ length bs → front ch bs ≡ message n
message_in ch bs cs n e l h =
    let q = message_is ch (bs ++ cs) n e in
    message_of ch bs n h (ap (begun ch) (sym (take-append-le 4 bs cs h)) ∙ q.1) l

-- what is held, filled up from a chunk to so many bytes
cut_at : (h c : List ℕ) (n : ℕ) → (h ++ take n c) ++ drop n c ≡ h ++ c
cut_at h c n = append_assoc h (take n c) (drop n c) ∙ ap (λ x. h ++ x) (take-append-drop n c)

-- the bytes of a header: those of what is filled up to four, if it has them
pub head_of : (h c : List ℕ) → let f = h ++ take (4 - length h) c in 4 ≤ length f → take 4 f ≡ take 4 (h ++ c)
head_of h c l =
    let f = h ++ take (4 - length h) c in
    sym (take-append-le 4 f (drop (4 - length h) c) l) ∙ ap (take 4) (cut_at h c (4 - length h))

-- all of the chunk is taken where that is not enough
pub all_taken : (h c : List ℕ) (n : ℕ) → length (h ++ take n c) < length h + n → h ++ take n c ≡ h ++ c
all_taken h c n l =
    let a = length-append h (take n c) in
    let t = length-take n c in
    ap (λ x. h ++ x) (take_all n c (omega arith))

-- what is held, cut to so many bytes, is the front of the stream
filled_by : (a b : List ℕ) (n : ℕ) (t : Bool) → ltb (length a) n ≡ t
    → take n (a ++ take (n - length a) b) ≡ take n (a ++ b)
filled_by a b n false e =
    let h = ltb-false (length a) n e in
    take-append-le n a (take (n - length a) b) h ∙ sym (take-append-le n a b h)
filled_by a b n true e =
    let h = ltb-true (length a) n e in
    let m = n - length a in
    let k : n ≡ length a + m = omega arith in
    ap (λ x. take x (a ++ take m b)) k ∙ take-append-add a (take m b) m ∙ ap (λ x. a ++ x) (take-take m m b (omega arith))
    ∙ sym (take-append-add a b m) ∙ sym (ap (λ x. take x (a ++ b)) k)

filled : (a b : List ℕ) (n : ℕ) → take n (a ++ take (n - length a) b) ≡ take n (a ++ b)
filled a b n = filled_by a b n (ltb (length a) n) refl

-- a splitter's answers, by what it holds then
pub short_held : (ch : Channel) (h c f : List ℕ) → f ≡ h ++ take (4 - length h) c → length f < 4
    → (f ≡ reached ch (h ++ c)) × (front ch (h ++ c) ≡ unfinished)
short_held ch h c f e l =
    let g = ap length e in
    let a = length-append h (take (4 - length h) c) in
    let k : f ≡ h ++ c = e ∙ all_taken h c (4 - length h) (omega arith) in
    let m = ap length k in
    let u = front_short ch (h ++ c) (omega arith) in
    let w : reached ch (h ++ c) ≡ h ++ c = rw u (take_all (length (h ++ c)) (h ++ c) (omega arith)) in
    (k ∙ sym w, u)

-- the stream's header, by what is held of it
header_held : (ch : Channel) (h c f : List ℕ) (r : Result ℕ Fault) → f ≡ h ++ take (4 - length h) c → 4 ≤ length f
    → r ≡ begun ch (take 4 f) → (4 ≤ length (h ++ c)) × (begun ch (take 4 (h ++ c)) ≡ r)
header_held ch h c f r e l b =
    let g = h ++ take (4 - length h) c in
    let m = ap length e in
    let k = ap (take 4) e ∙ head_of h c (omega arith) in
    let t = ap length (cut_at h c (4 - length h)) in
    let u = length-append g (drop (4 - length h) c) in
    (omega arith, ap (begun ch) (sym k) ∙ sym b)

pub broken_held : (ch : Channel) (h c f g : List ℕ) (x : Fault) → f ≡ h ++ take (4 - length h) c → 4 ≤ length f
    → Err x ≡ begun ch (take 4 f) → g ≡ take 4 f
    → (g ≡ reached ch (h ++ c)) × (front ch (h ++ c) ≡ broken x)
broken_held ch h c f g x e l b t =
    let q = header_held ch h c f (Err x) e l b in
    let u = broken_of ch (h ++ c) x q.0 q.1 in
    let m = ap length e in
    let k : g ≡ take 4 (h ++ c) = t ∙ ap (take 4) e ∙ head_of h c (omega arith) in
    let w : reached ch (h ++ c) ≡ take 4 (h ++ c) = rw u refl in
    (k ∙ sym w, u)

taken_held : (h c f r g k : List ℕ) (n : ℕ) → f ≡ h ++ take (4 - length h) c → r ≡ drop (4 - length h) c
    → g ≡ f ++ take (n - length f) r → k ≡ take n g → k ≡ take n (h ++ c)
taken_held h c f r g k n e d a t =
    let j : f ++ r ≡ h ++ c = ap (λ x. f ++ x) d ∙ ap (λ x. x ++ drop (4 - length h) c) e ∙ cut_at h c (4 - length h) in
    t ∙ ap (take n) a ∙ filled f r n ∙ ap (take n) j

pub more_held : (ch : Channel) (h c f r g k : List ℕ) (n : ℕ) → f ≡ h ++ take (4 - length h) c
    → r ≡ drop (4 - length h) c → 4 ≤ length f → Ok n ≡ begun ch (take 4 f) → g ≡ f ++ take (n - length f) r
    → k ≡ take n g → length k < n → (k ≡ reached ch (h ++ c)) × (front ch (h ++ c) ≡ unfinished)
more_held ch h c f r g k n e d l b a t s =
    let q = header_held ch h c f (Ok n) e l b in
    let j = taken_held h c f r g k n e d a t in
    let m = ap length j in
    let o = length-take n (h ++ c) in
    let u = more_of ch (h ++ c) n q.0 q.1 (omega arith) in
    let w : reached ch (h ++ c) ≡ h ++ c = rw u (take_all (length (h ++ c)) (h ++ c) (omega arith)) in
    (j ∙ take_all n (h ++ c) (omega arith) ∙ sym w, u)

pub whole_held : (ch : Channel) (h c f r g k : List ℕ) (n : ℕ) → f ≡ h ++ take (4 - length h) c
    → r ≡ drop (4 - length h) c → 4 ≤ length f → Ok n ≡ begun ch (take 4 f) → g ≡ f ++ take (n - length f) r
    → k ≡ take n g → n ≤ length k → (k ≡ reached ch (h ++ c)) × (front ch (h ++ c) ≡ message n)
whole_held ch h c f r g k n e d l b a t s =
    let q = header_held ch h c f (Ok n) e l b in
    let j = taken_held h c f r g k n e d a t in
    let m = ap length j in
    let o = length-take n (h ++ c) in
    let u = message_of ch (h ++ c) n q.0 q.1 (omega arith) in
    let w : reached ch (h ++ c) ≡ take n (h ++ c) = rw u refl in
    (j ∙ sym w, u)

-- what is wrong at a stream's end
pub end_short : (ch : Channel) (bs : List ℕ) → length bs < 4 → fault.Short ≡ end_fault (front ch bs)
end_short ch bs h = rw (front_short ch bs h) refl

pub end_broken : (ch : Channel) (bs : List ℕ) (x : Fault) → 4 ≤ length bs → Err x ≡ begun ch (take 4 bs)
    → x ≡ end_fault (front ch bs)
end_broken ch bs x h b = rw (broken_of ch bs x h (sym b)) refl

end_by_total : (b : Bool) (n : ℕ) → fault.Short ≡ end_fault (cond b unfinished (message n))
end_by_total true n = refl
end_by_total false n = refl

pub end_more : (ch : Channel) (bs : List ℕ) (n : ℕ) → 4 ≤ length bs → Ok n ≡ begun ch (take 4 bs)
    → fault.Short ≡ end_fault (front ch bs)
end_more ch bs n h b =
    end_by_total (ltb (length bs) n) n
    ∙ ap end_fault (sym (front_long ch bs h ∙ ap (λ r. front_by r (length bs)) (sym b)))
