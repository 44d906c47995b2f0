-- What was written, and what was kept.
use Rattle.std.proofs.Common.{◌≡◌, ℕ, List, [], ◌++◌, Option, Some, None, refl, sym, ◌∙◌, ap, append_assoc, take}
use Rattle.std.proofs.lemmas.List.{append-nil}
use Rattle.std.specs.Io.KnownBytes.{Appends, Keeps, append_known}
use Rattle.text_lines.specs.Known.{IsFront}
use Rattle.text_lines.proofs.Known.{front_of_part}

pub keeps_same : (b : Option (List ℕ)) → Keeps b b
keeps_same None = tt
keeps_same (Some t) = refl

pub keeps_both : (a b c : Option (List ℕ)) → Keeps a b → Keeps b c → Keeps a c
keeps_both None b c h k = tt
keeps_both (Some s) None c h k = absurd h
keeps_both (Some s) (Some t) None h k = k
keeps_both (Some s) (Some t) (Some u) h k = k ∙ h

pub keeps_appends : (a b c : Option (List ℕ)) (x : List ℕ) → Keeps a b → Appends b c x → Appends a c x
keeps_appends None b c x k h = tt
keeps_appends (Some s) None c x k h = absurd k
keeps_appends (Some s) (Some t) None x k h = h
keeps_appends (Some s) (Some t) (Some u) x k h = h ∙ ap (λ v. v ++ x) k

pub keeps_none : (a b : Option (List ℕ)) → Keeps a b → Appends a b []
keeps_none None b k = tt
keeps_none (Some s) None k = k
keeps_none (Some s) (Some t) k = k ∙ sym (append-nil s)

pub appends_nothing : (b : Option (List ℕ)) (text : List ℕ) → text ≡ [] → Appends b b text
appends_nothing None text e = tt
appends_nothing (Some t) text e = rw e (sym (append-nil t))

pub keeps_front : (a b : Option (List ℕ)) (x : List ℕ) → Keeps a b → IsFront a b x
keeps_front None b x k = ([], tt)
keeps_front (Some s) None x k = absurd k
keeps_front (Some s) (Some t) x k = (x, ap (λ v. v ++ x) k)

-- all of a text is a front of it
pub front_all : (a b : Option (List ℕ)) (text : List ℕ) → Appends a b text → IsFront a b text
front_all None b text h = ([], tt)
front_all (Some s) None text h = absurd h
front_all (Some s) (Some t) text h = ([], append-nil t ∙ h)

-- so many bytes of it are one
pub part_front : (a b c : Option (List ℕ)) (n : ℕ) (text : List ℕ) → Keeps a b → Appends b c (take n text) → IsFront a c text
part_front a b c n text k h = front_of_part a c n text (keeps_appends a b c (take n text) k h)

pub kept_front : (a b c : Option (List ℕ)) (x : List ℕ) → IsFront a b x → Keeps b c → IsFront a c x
kept_front None b c x h k = ([], tt)
kept_front (Some s) None c x h k = absurd h.1
kept_front (Some s) (Some t) None x h k = absurd k
kept_front (Some s) (Some t) (Some u) x h k = (h.0, ap (λ v. v ++ h.0) k ∙ h.1)

pub front_kept : (a b c : Option (List ℕ)) (x : List ℕ) → Keeps a b → IsFront b c x → IsFront a c x
front_kept a b c x k h = (h.0, keeps_appends a b (append_known c h.0) x k h.1)

-- what was written and what follows
pub appends_then : (a b : Option (List ℕ)) (p rest : List ℕ) → Appends a b p → Appends a (append_known b rest) (p ++ rest)
appends_then None b p rest h = tt
appends_then (Some s) None p rest h = absurd h
appends_then (Some s) (Some t) p rest h = ap (λ v. v ++ rest) h ∙ append_assoc s p rest

pub front_then : (a b : Option (List ℕ)) (p rest : List ℕ) → IsFront a b p → IsFront a b (p ++ rest)
front_then a b p rest h = by a b h.0 h.1
  where
    by : (x y : Option (List ℕ)) (more : List ℕ) → Appends x (append_known y more) p → IsFront x y (p ++ rest)
    by None y more q = ([], tt)
    by (Some s) None more q = absurd q
    by (Some s) (Some t) more q = (more ++ rest, sym (append_assoc t more rest) ∙ ap (λ v. v ++ rest) q ∙ append_assoc s p rest)

pub appends_none : (a b : Option (List ℕ)) (all : List ℕ) → Appends a (append_known b []) all → Appends a b all
appends_none None b all q = tt
appends_none (Some s) None all q = absurd q
appends_none (Some s) (Some t) all q = sym (append-nil t) ∙ q
