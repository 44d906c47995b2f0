-- Known bytes over several calls: what each of them took or wrote stands one behind the other.
use Rattle.std.proofs.Common.{take, drop, ◌+◌, ◌≤◌, IfSome, ◌≡◌, ℕ, ◌<◌, List, [], ◌∷◌, ◌++◌, length, Option, Some, None, refl, sym, ◌∙◌, ap, append_assoc, arith, nat_lt, subst, true, false}
use Rattle.std.proofs.lemmas.Bool.Decides.{nat_tests}
use Rattle.std.proofs.lemmas.List.{append-nil, take-append-drop}
use Rattle.std.specs.Io.{StartsWith}
use Rattle.std.specs.Io.BufRead.{DropsConsumable}
use Rattle.std.specs.Io.KnownBytes.{Keeps, Consumes, IsAtEnd, Appends, append_known}
use Rattle.std.proofs.BufReadLemmas.{Consumes_shown}
use Rattle.std.proofs.Math.Seq.{take-add}
use Rattle.text_lines.specs.Known.{Known, IsFront}
use Rattle.text_lines.specs.Lines.{ReadsLineUpTo, NoFeed, lines_of, before_feed, held_line}
use Rattle.text_lines.specs.declared.lines.LineRead.TheVariants.{End, Line, TooLong}
use Rattle.text_lines.proofs.LineFronts.{no_feed_before, feed_behind, no_feed_more, last_line, ended_line, long_line}

-- nothing was taken
consumes_none : (a : Option (List ℕ)) → Consumes a a []
consumes_none None = tt
consumes_none (Some all) = refl

-- a part more
pub consumes_more : (a b c : Option (List ℕ)) (line part : List ℕ) → Consumes a b line → Consumes b c part → Consumes a c (line ++ part)
consumes_more None b c line part p q = tt
consumes_more (Some all) None c line part p q = absurd p
consumes_more (Some all) (Some rest) None line part p q = q
consumes_more (Some all) (Some rest) (Some left) line part p q = p ∙ ap (λ r. line ++ r) q ∙ sym (append_assoc line part left)

-- what was shown and then consumed
pub takes_shown : (a b c : Option (List ℕ)) (limit : Option ℕ) (shown : List ℕ) (n : ℕ) → n ≤ length shown
    → IfSome a (λ xs. StartsWith xs shown) → IfSome a (λ xs. length shown ≡ 0 → xs ≡ []) → Keeps a b × IfSome a (λ _. IfSome limit (λ k. length shown ≤ k))
    → DropsConsumable b c limit n → Consumes a c (take n shown)
takes_shown a b c limit shown n within front end kept drops = (Consumes_shown a b c limit shown n within front end kept.0 kept.1 drops).0

-- the end, with nothing read
pub reads_end : (most : ℕ) (a b c : Option (List ℕ)) (line : List ℕ) → line ≡ [] → Consumes a b line → IsAtEnd b → Keeps b c → Known a c (ReadsLineUpTo most End line)
reads_end most None b c line e p q k = tt
reads_end most (Some all) None c line e p q k = absurd p
reads_end most (Some all) (Some rest) None line e p q k = absurd k
reads_end most (Some all) (Some rest) (Some left) line e p q k =
    let h : all ≡ [] = cc in rw h refl

-- the end, after some bytes
pub reads_last : (most : ℕ) (a b c : Option (List ℕ)) (line : List ℕ) → NoFeed line → 0 < length line → Consumes a b line → IsAtEnd b → Keeps b c → Known a c (ReadsLineUpTo most Line line)
reads_last most None b c line f h p q k = tt
reads_last most (Some all) None c line f h p q k = absurd p
reads_last most (Some all) (Some rest) None line f h p q k = absurd k
reads_last most (Some all) (Some rest) (Some left) line f h p q k =
    let e : all ≡ line = p ∙ ap (λ r. line ++ r) q ∙ append-nil line in
    let l : left ≡ [] = k ∙ q in
    rw (e, l) (last_line line f h)

-- a line feed
pub reads_line : (most : ℕ) (a b c : Option (List ℕ)) (line part : List ℕ) → NoFeed line → NoFeed part → Consumes a b line → Consumes b c (part ++ 10 ∷ []) → Known a c (ReadsLineUpTo most Line (line ++ part))
reads_line most None b c line part f g p q = tt
reads_line most (Some all) None c line part f g p q = absurd p
reads_line most (Some all) (Some rest) None line part f g p q = q
reads_line most (Some all) (Some rest) (Some left) line part f g p q =
    let e : all ≡ (line ++ part) ++ 10 ∷ left = p ∙ ap (λ r. line ++ r) (q ∙ append_assoc part (10 ∷ []) left) ∙ sym (append_assoc line part (10 ∷ left)) in
    rw e (ended_line (line ++ part) left (no_feed_more line part f g))

-- a line that was shown whole, and consumed with its line feed
held_at : (most : ℕ) (held : List ℕ) (n : ℕ) → held_line most held ≡ Some n → (before_feed held ≡ n) × (n < length held) × (n ≤ most)
held_at most held n e = elim (nat_lt (before_feed held) (length held)) as (λ b. nat_lt (before_feed held) (length held) ≡ b → (before_feed held ≡ n) × (n < length held) × (n ≤ most)) [
  | true ↦ λ t. grind (arith, nat_tests)
  | false ↦ λ f. absurd (grind (arith, nat_tests))
] refl

pub reads_held : (most : ℕ) (a b c : Option (List ℕ)) (limit : Option ℕ) (held : List ℕ) (n : ℕ) → held_line most held ≡ Some n
    → IfSome a (λ xs. StartsWith xs held) → IfSome a (λ xs. length held ≡ 0 → xs ≡ []) → Keeps a b × IfSome a (λ _. IfSome limit (λ k. length held ≤ k))
    → DropsConsumable b c limit (n + 1) → Known a c (ReadsLineUpTo most Line (take n held))
reads_held most a b c limit held n e front end kept drops =
    let h = held_at most held n e in
    let none : NoFeed (take n held) = subst (λ k. NoFeed (take k held)) h.0 (no_feed_before held) in
    let taken : take (n + 1) held ≡ take n held ++ 10 ∷ [] = subst (λ k. take (k + 1) held ≡ take k held ++ 10 ∷ []) h.0 (feed_behind held (omega (arith, h.0, h.1))) in
    reads_line most a a c [] (take n held) tt none (consumes_none a)
    (subst (Consumes a c) taken (takes_shown a b c limit held (n + 1) (omega (arith, h.1)) front end kept drops))

-- too many bytes
pub reads_long : (most : ℕ) (a b c : Option (List ℕ)) (line part : List ℕ) → NoFeed line → NoFeed part → most < length (line ++ part) → Consumes a b line → Consumes b c part → Known a c (ReadsLineUpTo most TooLong line)
reads_long most None b c line part f g n p q = tt
reads_long most (Some all) None c line part f g n p q = absurd p
reads_long most (Some all) (Some rest) None line part f g n p q = q
reads_long most (Some all) (Some rest) (Some left) line part f g n p q =
    let e : all ≡ (line ++ part) ++ left = consumes_more (Some all) (Some rest) (Some left) line part p q in
    let l = long_line (line ++ part) left (no_feed_more line part f g) (omega (arith, n)) in
    (l.0, l.1, ap lines_of e ∙ l.2, omega (arith, l.3, n))

-- a part more was written
pub appends_part : (a b c : Option (List ℕ)) (p n : ℕ) (xs : List ℕ) → Appends a b (take p xs) → Appends b c (take n (drop p xs)) → Appends a c (take (p + n) xs)
appends_part None b c p n xs h k = tt
appends_part (Some s) None c p n xs h k = absurd h
appends_part (Some s) (Some t) None p n xs h k = k
appends_part (Some s) (Some t) (Some u) p n xs h k = k ∙ ap (λ v. v ++ take n (drop p xs)) h ∙ append_assoc s (take p xs) (take n (drop p xs)) ∙ ap (λ v. s ++ v) (sym (take-add p n xs))

pub appends_keeps : (a b c : Option (List ℕ)) (xs : List ℕ) → Appends a b xs → Keeps b c → Appends a c xs
appends_keeps None b c xs h k = tt
appends_keeps (Some s) None c xs h k = absurd h
appends_keeps (Some s) (Some t) None xs h k = k
appends_keeps (Some s) (Some t) (Some u) xs h k = k ∙ h

-- so many bytes of a text are a front of it
pub front_of_part : (a b : Option (List ℕ)) (n : ℕ) (text : List ℕ) → Appends a b (take n text) → IsFront a b text
front_of_part None b n text h = ([], tt)
front_of_part (Some s) None n text h = absurd h
front_of_part (Some s) (Some t) n text h =
    (drop n text, ap (λ v. v ++ drop n text) h ∙ append_assoc s (take n text) (drop n text) ∙ ap (λ v. s ++ v) (take-append-drop n text))

-- and so are all
pub front_of_all : (a b c : Option (List ℕ)) (text : List ℕ) → Appends a b text → Keeps b c → IsFront a c text
front_of_all None b c text h k = ([], tt)
front_of_all (Some s) None c text h k = absurd h
front_of_all (Some s) (Some t) None text h k = absurd k
front_of_all (Some s) (Some t) (Some u) text h k = ([], append-nil u ∙ k ∙ h)

-- and so is none of it
pub front_none : (b : Option (List ℕ)) (text : List ℕ) → IsFront b b text
front_none None text = (text, tt)
front_none (Some xs) text = (text, refl)

-- of two parts the first was written
pub appends_more : (a b c : Option (List ℕ)) (x y all : List ℕ) → Appends b c x → Appends a (append_known b (x ++ y)) all → Appends a (append_known c y) all
appends_more None b c x y all p q = tt
appends_more (Some s) None c x y all p q = absurd q
appends_more (Some s) (Some t) None x y all p q = p
appends_more (Some s) (Some t) (Some u) x y all p q = ap (λ v. v ++ y) p ∙ append_assoc t x y ∙ q

-- what was to be written was written up to more
pub appends_front : (a b c : Option (List ℕ)) (more text rest all : List ℕ) → Appends b (append_known c more) text → Appends a (append_known b (text ++ rest)) all → Appends a (append_known c (more ++ rest)) all
appends_front None b c more text rest all p q = tt
appends_front (Some s) None c more text rest all p q = absurd q
appends_front (Some s) (Some t) None more text rest all p q = absurd p
appends_front (Some s) (Some t) (Some u) more text rest all p q = sym (append_assoc u more rest) ∙ ap (λ v. v ++ rest) p ∙ append_assoc t text rest ∙ q
