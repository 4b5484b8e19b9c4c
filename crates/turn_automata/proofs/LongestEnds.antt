-- How the longest list is found that ends the steps driven: from one list to the longest shorter one that ends it.
use Rattle.std.proofs.Common.{◌≡◌, ℕ, suc, ◌+◌, ◌<◌, ◌≤◌, ◌⊎◌, inl, inr, List, [], ◌∷◌, ◌++◌, length, get_or, Contains}
use Rattle.std.proofs.Common.{refl, sym, ap, subst, ◌∙◌, arith, append_assoc, length-append}
use Rattle.std.proofs.lemmas.List.{get_or_append_left}
use Rattle.std.proofs.Math.Seq.{get_or-append_seam}
use Rattle.turn_automata.specs.Trees.{Stands, Rises, IsClosed}
use Rattle.turn_automata.specs.FailureLinks.{IsLongestIn, AreFailureLinks, Descends}
use Rattle.ordered_lists.proofs.Splits.{Ends, Nil, Last, ends, same_last, cons_not_nil}
use Rattle.turn_automata.proofs.Ends.{shorter_end, longest_grows}
use Rattle.ordered_lists.proofs.ListPlaces.{one_stands, some_at, contains_at, at_contains}

-- the list with number n ends p, and no longer end of p has the property
pub record IsLeft {S : Type 0} (ps : List (List S)) (G : List S → Type 0) (p : List S) (n : ℕ) : Type 0 where
  pub end : List S
  pub at : Stands ps n end
  pub front : List S
  pub is : p ≡ front ++ end
  pub others : (a b : List S) → p ≡ a ++ b → G b → length b ≤ length end

-- the lists that go on by s
abbrev pub GoesOn : {S : Type 0} → List (List S) → S → List S → Type 0
GoesOn ps s b = Contains ps (b ++ s ∷ [])

module _ {S : Type 0} (ps : List (List S)) (closed : IsClosed ps) where
  pub prefix_there : (p : List S) (s : S) → Contains ps (p ++ s ∷ []) → Contains ps p
  prefix_there p s h =
      let at = at_contains ps (p ++ s ∷ []) h in
      let b = closed.before at.0 p s at.1 in
      contains_at ps b.0 p b.1

  no_longer : (a b p : List S) → p ≡ a ++ b → length b ≤ length p
  no_longer a b p e = let l : length p ≡ length a + length b = ap length e ∙ length-append a b in omega arith

  pub all_left : (G : List S → Type 0) (p : List S) (n : ℕ) → Stands ps n p → IsLeft ps G p n
  all_left G p n st = record { end = p; at = st; front = []; is = refl; others = λ a b e h. no_longer a b p e }

  -- where the list goes on by s, that is the longest
  pub goes_on : (p : List S) (s : S) (n m : ℕ) (left : IsLeft ps (GoesOn ps s) p n) → Stands ps m (left.end ++ s ∷ [])
      → IsLongestIn ps (p ++ s ∷ []) m
  goes_on p s n m left st = record {
    list = left.end ++ s ∷ [];
    at = st;
    longest = record {
      front = left.front;
      is = ap (λ v. v ++ s ∷ []) left.is ∙ append_assoc left.front left.end (s ∷ []);
      holds = contains_at ps m (left.end ++ s ∷ []) st;
      longest = λ a b e h. by a b e h (ends b);
    };
  }
    where
      by : (a b : List S) → p ++ s ∷ [] ≡ a ++ b → Contains ps b → Ends b → length b ≤ length (left.end ++ s ∷ [])
      by a b e h (Nil z) = let l : length b ≡ 0 = ap length z in omega arith
      by a b e h (Last c y z) =
          let same = same_last p s (a ++ c) y (e ∙ ap (λ v. a ++ v) z ∙ sym (append_assoc a c (y ∷ []))) in
          let less : length c ≤ length left.end = left.others a c same.front
          (subst (Contains ps) (z ∙ ap (λ v. c ++ v ∷ []) (sym same.last)) h) in
          let l : length b ≡ length c + 1 = ap length z ∙ length-append c (y ∷ []) in
          let m : length (left.end ++ s ∷ []) ≡ length left.end + 1 = length-append left.end (s ∷ []) in
          omega arith

  -- where it hasn't, the longest shorter one is left
  module _ (G : List S → Type 0) (there : (b : List S) → G b → Contains ps b) where
    links_to : (p : List S) (x : S) (d front : List S) (m : ℕ) → p ≡ front ++ x ∷ d
        → ((a b : List S) → p ≡ a ++ b → G b → length b ≤ length (x ∷ d))
        → (G (x ∷ d) → ⊥) → IsLongestIn ps d m → IsLeft ps G p m
    links_to p x d front m is others none link = record {
      end = link.list;
      at = link.at;
      front = front ++ (x ∷ link.longest.front);
      is = is ∙ ap (λ v. front ++ (x ∷ v)) link.longest.is
          ∙ sym (append_assoc front (x ∷ link.longest.front) link.list);
      others = λ a b e h. let c = shorter_end front a (x ∷ d) b (sym is ∙ e) (others a b e h) in by b h c.0 c.1;
    }
      where
        by : (b : List S) → G b → (c : List S) → x ∷ d ≡ c ++ b → length b ≤ length link.list
        by b h [] e = absurd (none (subst G (sym e) h))
        by b h (y ∷ c) e = link.longest.longest c b (cc) (there b h)

  nonempty : (n : ℕ) (p : List S) → 0 < n → Stands ps n p → (x : S) × (d : List S) × (p ≡ x ∷ d)
  nonempty n [] h st = let e : n ≡ 0 = closed.once n 0 [] st closed.empty in absurd (omega arith)
  nonempty n (x ∷ d) h st = (x, d, refl)

  pub links_back : (G : List S → Type 0) (there : (b : List S) → G b → Contains ps b) (links : List ℕ)
      → AreFailureLinks ps links → (p : List S) (n : ℕ) → 0 < n → n < length links → (left : IsLeft ps G p n)
      → ((q : List S) → Stands ps n q → G q → ⊥) → IsLeft ps G p (get_or links n 0)
  links_back G there links are p n low high left none =
      let e = nonempty n left.end low left.at in
      let at : Stands ps n (e.0 ∷ e.1) = subst (Stands ps n) e.2 left.at in
      links_to G there p e.0 e.1 left.front (get_or links n 0) (left.is ∙ ap (λ v. left.front ++ v) e.2)
      (λ a b q h. subst (λ v. length b ≤ length v) e.2 (left.others a b q h)) (none (e.0 ∷ e.1) at)
      (are n e.0 e.1 high at)

  -- where nothing is left, what the step begins is the longest
  pub begins : (p : List S) (s : S) (m : ℕ) → IsLeft ps (GoesOn ps s) p 0 → IsLongestIn ps (s ∷ []) m
      → IsLongestIn ps (p ++ s ∷ []) m
  begins p s m left begun = record {
    list = begun.list;
    at = begun.at;
    longest = record {
      front = p ++ begun.longest.front;
      is = ap (λ v. p ++ v) begun.longest.is ∙ sym (append_assoc p begun.longest.front begun.list);
      holds = begun.longest.holds;
      longest = λ a b e h. by a b e h (ends b);
    };
  }
    where
      none : length left.end ≡ 0
      none = ap length (one_stands ps 0 left.end [] left.at closed.empty)

      alone : (c : List S) → length c ≡ 0 → c ≡ []
      alone [] l = refl
      alone (z ∷ c) l = absurd (omega arith)

      by : (a b : List S) → p ++ s ∷ [] ≡ a ++ b → Contains ps b → Ends b → length b ≤ length begun.list
      by a b e h (Nil z) = let l : length b ≡ 0 = ap length z in omega arith
      by a b e h (Last c y z) =
          let same = same_last p s (a ++ c) y (e ∙ ap (λ v. a ++ v) z ∙ sym (append_assoc a c (y ∷ []))) in
          let less : length c ≤ length left.end = left.others a c same.front
          (subst (Contains ps) (z ∙ ap (λ v. c ++ v ∷ []) (sym same.last)) h) in
          let n : length c ≡ 0 = omega (arith, none) in
          let is : s ∷ [] ≡ b = ap (λ v. v ∷ []) same.last ∙ ap (λ v. v ++ y ∷ []) (sym (alone c n)) ∙ sym z in
          begun.longest.longest [] b is h

  -- a list of one step
  pub begun_by : (s : S) (m : ℕ) → Stands ps m (s ∷ []) → IsLongestIn ps (s ∷ []) m
  begun_by s m st = record {
    list = s ∷ [];
    at = st;
    longest = record {
      front = [];
      is = refl;
      holds = contains_at ps m (s ∷ []) st;
      longest = λ a b e h. no_longer a b
          (s ∷ []) e;
    };
  }

  pub nothing_begun : (s : S) → (Contains ps (s ∷ []) → ⊥) → IsLongestIn ps (s ∷ []) 0
  nothing_begun s none = record {
    list = [];
    at = closed.empty;
    longest = record {
      front = s ∷ [];
      is = refl;
      holds = contains_at ps 0 [] closed.empty;
      longest = λ a b e h. by a b
          e h;
    };
  }
    where
      by : (a b : List S) → s ∷ [] ≡ a ++ b → Contains ps b → length b ≤ 0
      by [] b e h = absurd (none (subst (Contains ps) (sym e) h))
      by (z ∷ a) b e h = let l : 1 ≡ suc (length a + length b) = ap length e ∙ ap suc (length-append a b) in omega arith

  -- the link of a list of one step
  pub links_first : (n : ℕ) (y : S) → Stands ps n (y ∷ []) → (x : S) (d : List S) → Stands ps n (x ∷ d)
      → IsLongestIn ps d 0
  links_first n y one x d st =
      let e : x ∷ d ≡ y ∷ [] = one_stands ps n (x ∷ d) (y ∷ []) st one in
      let z : [] ≡ d = cc in
      subst (λ v. IsLongestIn ps v 0) z (record {
        list = [];
        at = closed.empty;
        longest = record {
          front = [];
          is = refl;
          holds = contains_at ps 0 [] closed.empty;
          longest = λ a b q h.
              no_longer a b [] q;
        };
      })

  -- the link of a list that grew from one whose link is known
  module _ (links : List ℕ) (are : AreFailureLinks ps links) (from n : ℕ) (y : S) (r : ℕ) (low : 0 < from)
      (high : from < length links)
      (edge : (p : List S) → Stands ps from p → Stands ps n (p ++ y ∷ [])) (within : from < length ps)
      (found : (p : List S) → Stands ps (get_or links from 0) p → IsLongestIn ps (p ++ y ∷ []) r) where
    pub links_next : (x : S) (d : List S) → Stands ps n (x ∷ d) → IsLongestIn ps d r
    links_next x d st =
        let u = some_at ps from within in
        let v = nonempty from u.0 low u.1 in
        let old = are from v.0 v.1 high (subst (Stands ps from) v.2 u.1) in
        let new = found old.list old.at in
        let grown : Stands ps n (v.0 ∷ (v.1 ++ y ∷ [])) = subst (λ q. Stands ps n (q ++ y ∷ [])) v.2 (edge u.0 u.1) in
        let e : x ∷ d ≡ v.0 ∷ (v.1 ++ y ∷ []) = one_stands ps n (x ∷ d) (v.0 ∷ (v.1 ++ y ∷ [])) st grown in
        let z : v.1 ++ y ∷ [] ≡ d = cc in
        subst (λ q. IsLongestIn ps q r) z (record {
          list = new.list;
          at = new.at;
          longest = longest_grows (Contains ps) prefix_there v.1 old.list new.list y old.longest new.longest;
        })

    pub links_below : Rises ps → r < n
    links_below rises =
        let u = some_at ps from within in
        let v = nonempty from u.0 low u.1 in
        let d = v.1 ++ y ∷ [] in
        let grown : Stands ps n (v.0 ∷ d) = subst (λ q. Stands ps n (q ++ y ∷ [])) v.2 (edge u.0 u.1) in
        let link = links_next v.0 d grown in
        let short : length link.list ≤ length d = no_longer link.longest.front link.list d link.longest.is in
        let up : n ≤ r → suc (length d) ≤ length link.list = rises n r (v.0 ∷ d) link.list grown link.at in
        below n r (λ h. let k = up h in omega arith)
      where
        below : (a b : ℕ) → (a ≤ b → ⊥) → b < a
        below a b h = grind (arith, h)

  pub links_none : (links : List ℕ) → links ≡ 0 ∷ [] → AreFailureLinks ps links
  links_none links e n x d h st =
      let l : length links ≡ 1 = ap length e in
      let z : n ≡ 0 = omega arith in
      absurd (cons_not_nil [] x d (one_stands ps 0 (x ∷ d) [] (subst (λ i. Stands ps i (x ∷ d)) z st) closed.empty))

  pub links_more : (links new : List ℕ) (f : ℕ) → new ≡ links ++ f ∷ [] → AreFailureLinks ps links
      → ((x : S) (d : List S) → Stands ps (length links) (x ∷ d) → IsLongestIn ps d f) → AreFailureLinks ps new
  links_more links new f e are next n x d h st = elim (cases n (length links) (subst (λ v. n < length v) e h)) [
    | inl l ↦ subst (IsLongestIn ps d) (sym (ap (λ v. get_or v n 0) e ∙ get_or_append_left links (f ∷ []) 0 n l))
        (are n x d l st)
    | inr l ↦ subst (IsLongestIn ps d) (sym (ap (λ v. get_or v n 0) e ∙ ap (λ i. get_or (links ++ f ∷ []) i 0) l
        ∙ get_or-append_seam links f [] 0)) (next x d (subst (λ i. Stands ps i (x ∷ d)) l st))
  ]
    where
      cases : (a b : ℕ) → a < length (links ++ f ∷ []) → (a < length links) ⊎ (a ≡ length links)
      cases a b h = let l : length (links ++ f ∷ []) ≡ length links + 1 = length-append links (f ∷ []) in grind arith

pub descends_more : (links new : List ℕ) (f : ℕ) → new ≡ links ++ f ∷ [] → Descends links → f < length links
    → Descends new
descends_more links new f e down low n h k = elim (cases n (subst (λ v. n < length v) e k)) [
  | inl l ↦ subst (λ v. v < n) (sym (ap (λ v. get_or v n 0) e ∙ get_or_append_left links (f ∷ []) 0 n l)) (down n h l)
  | inr l ↦ subst (λ v. v < n) (sym (ap (λ v. get_or v n 0) e ∙ ap (λ i. get_or (links ++ f ∷ []) i 0) l
      ∙ get_or-append_seam links f [] 0)) (subst (λ i. f < i) (sym l) low)
]
  where
    cases : (a : ℕ) → a < length (links ++ f ∷ []) → (a < length links) ⊎ (a ≡ length links)
    cases a h = let l : length (links ++ f ∷ []) ≡ length links + 1 = length-append links (f ∷ []) in grind arith

pub descends_none : (links : List ℕ) → links ≡ 0 ∷ [] → Descends links
descends_none links e n h k = let l : length links ≡ 1 = ap length e in absurd (omega arith)
