-- Where one way to cut a list in two meets another.
use Rattle.std.proofs.Common.{◌≡◌, List, [], ◌∷◌, ◌++◌, refl, sym}

-- the second cut falls at or behind the first, or inside what stands before it
pub data Cut {S : Type 0} (xs ys a b : List S) : Type 0 where
  Behind : (c : List S) → a ≡ xs ++ c → ys ≡ c ++ b → Cut xs ys a b
  Before : (x : S) (c : List S) → xs ≡ a ++ x ∷ c → b ≡ (x ∷ c) ++ ys → Cut xs ys a b

more : {S : Type 0} {xs ys a b : List S} (x y : S) → x ≡ y → Cut xs ys a b → Cut (x ∷ xs) ys (y ∷ a) b
more x y e (Behind c p q) = Behind c (cc) q
more x y e (Before z c p q) = Before z c (cc) q

pub cut : {S : Type 0} (xs ys a b : List S) → xs ++ ys ≡ a ++ b → Cut xs ys a b
cut [] ys a b e = Behind a refl e
cut (x ∷ xs) ys [] b e = Before x xs refl (sym e)
cut (x ∷ xs) ys (y ∷ a) b e = more x y (cc) (cut xs ys a b (cc))

pub cons_not_nil : {S : Type 0} (a : List S) (x : S) (b : List S) → a ++ x ∷ b ≡ [] → ⊥
cons_not_nil [] x b e = cc
cons_not_nil (y ∷ a) x b e = cc

pub same_head : {S : Type 0} (x y : S) (xs ys : List S) → x ∷ xs ≡ y ∷ ys → x ≡ y
same_head x y xs ys e = cc

-- a list is empty, or has a last element
pub data Ends {S : Type 0} (xs : List S) : Type 0 where
  Nil : xs ≡ [] → Ends xs
  Last : (front : List S) (x : S) → xs ≡ front ++ x ∷ [] → Ends xs

ends_more : {S : Type 0} (x : S) (xs : List S) → Ends xs → Ends (x ∷ xs)
ends_more x xs (Nil e) = Last [] x (cc)
ends_more x xs (Last front y e) = Last (x ∷ front) y (cc)

pub ends : {S : Type 0} (xs : List S) → Ends xs
ends [] = Nil refl
ends (x ∷ xs) = ends_more x xs (ends xs)

-- two lists with a last element are equal only if these are
pub record SameLast {S : Type 0} (a : List S) (x : S) (b : List S) (y : S) : Type 0 where
  pub front : a ≡ b
  pub last : x ≡ y

pub same_last : {S : Type 0} (a : List S) (x : S) (b : List S) (y : S) → a ++ x ∷ [] ≡ b ++ y ∷ [] → SameLast a x b y
same_last [] x [] y e = record { front = refl; last = cc }
same_last [] x (z ∷ b) y e = absurd (cons_not_nil b y [] (cc))
same_last (z ∷ a) x [] y e = absurd (cons_not_nil a x [] (cc))
same_last (z ∷ a) x (w ∷ b) y e = let r = same_last a x b y (cc) in record { front = cc (r.front); last = r.last }

-- what begins a list that goes on begins it too where it goes on otherwise
pub record Begins {S : Type 0} (xs : List S) (y : S) : Type 0 where
  pub rest : List S
  pub is : xs ≡ y ∷ rest

pub same_begin : {S : Type 0} (c : List S) (s : S) (rest back : List S) (y : S) (b : List S) → y ∷ b ≡ c ++ s ∷ rest
    → Begins (c ++ s ∷ back) y
same_begin [] s rest back y b e = record { rest = back; is = cc }
same_begin (z ∷ c) s rest back y b e = record { rest = c ++ s ∷ back; is = cc }
