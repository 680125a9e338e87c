-- Laws of `insert`, `sort` and `ascending` by a Boolean order, and the merging of two ascending lists.
use mathlib.Core.Path.{◌≡◌, refl, sym, ◌∙◌, ap}
use mathlib.Core.Bool.{Bool, false, So, cond, false≢true}
use mathlib.Core.List.{List, [], ◌∷◌, ◌++◌, append-nil}
use Prim.Native.Nat.{suc}
use lib.ListN.{length}
use Rattle.soda.specs.Lists.{insert, sort, ascending, merge}
use Rattle.soda.proofs.Bools.{by_test, not_so, and_split, and-join}

-- P holds of every element
abbrev pub All {ℓ} : {A : Type ℓ} → (A → Type 0) → List A → Type 0
All P [] = Unit
All P (x ∷ l) = P x × All P l

pub all_append : {A : Type 0} (P : A → Type 0) (xs ys : List A) → All P xs → All P ys → All P (xs ++ ys)
all_append P [] ys p q = q
all_append P (x ∷ xs) ys p q = (p.0, all_append P xs ys p.1 q)

module _ {A : Type 0} (le : A → A → Bool) where
  -- the second list with the elements of the first inserted, the last of them first
  abbrev insert_all : List A → List A → List A
  insert_all [] l = l
  insert_all (x ∷ xs) l = insert le x (insert_all xs l)

  -- x is not above the first element, if there is one
  abbrev Ahead : A → List A → Type 0
  Ahead x [] = Unit
  Ahead x (y ∷ l) = So (le x y)

  ascending_cons : (x : A) (l : List A) → Ahead x l → So (ascending le l) → So (ascending le (x ∷ l))
  ascending_cons x [] h k = refl
  ascending_cons x (y ∷ l) h k = and-join (le x y) (ascending le (y ∷ l)) h k

  ascending-head : (x : A) (l : List A) → So (ascending le (x ∷ l)) → Ahead x l
  ascending-head x [] h = tt
  ascending-head x (y ∷ l) h = (and_split (le x y) (ascending le (y ∷ l)) h).0

  ascending-tail : (x : A) (l : List A) → So (ascending le (x ∷ l)) → So (ascending le l)
  ascending-tail x [] h = refl
  ascending-tail x (y ∷ l) h = (and_split (le x y) (ascending le (y ∷ l)) h).1

  insert-ahead : (x : A) (l : List A) → Ahead x l → insert le x l ≡ x ∷ l
  insert-ahead x [] h = refl
  insert-ahead x (y ∷ l) h = rw h

  -- an ascending list is sorted already
  sort_id : (l : List A) → So (ascending le l) → sort le l ≡ l
  sort_id [] h = refl
  sort_id (x ∷ l) h = ap (insert le x) (sort_id l (ascending-tail x l h)) ∙ insert-ahead x l (ascending-head x l h)

  pub insert-length : (x : A) (l : List A) → length (insert le x l) ≡ suc (length l)
  insert-length x [] = refl
  insert-length x (y ∷ l) = by_test (le x y) (λ e. rw e) λ e. rw e (ap suc (insert-length x l))

  pub sort-length : (l : List A) → length (sort le l) ≡ length l
  sort-length [] = refl
  sort-length (x ∷ l) = insert-length x (sort le l) ∙ ap suc (sort-length l)

  sort_append : (xs ys : List A) → sort le (xs ++ ys) ≡ insert_all xs (sort le ys)
  sort_append [] ys = refl
  sort_append (x ∷ xs) ys = ap (insert le x) (sort_append xs ys)

  -- only the elements of the second part count, not their order
  pub sort-right : (xs ys zs : List A) → sort le ys ≡ sort le zs → sort le (xs ++ ys) ≡ sort le (xs ++ zs)
  sort-right xs ys zs e = sort_append xs ys ∙ ap (insert_all xs) e ∙ sym (sort_append xs zs)

  -- what holds of all elements holds of all elements of the sorted list
  module _ (P : A → Type 0) where
    insert_all_lem : (x : A) (l : List A) → P x → All P l → All P (insert le x l)
    insert_all_lem x [] p q = (p, tt)
    insert_all_lem x (y ∷ l) p q = by_test (le x y) (λ e. rw e (p, q)) λ e. rw e (q.0, insert_all_lem x l p q.1)

    pub sort-all : (l : List A) → All P l → All P (sort le l)
    sort-all [] p = tt
    sort-all (x ∷ l) p = insert_all_lem x (sort le l) p.0 (sort-all l p.1)

  merge-ahead : (x : A) (xs ys : List A) → Ahead x xs → Ahead x ys → Ahead x (merge le xs ys)
  merge-ahead x [] ys h k = k
  merge-ahead x (z ∷ xs) [] h k = h
  merge-ahead x (z ∷ xs) (y ∷ ys) h k = by_test (le z y) (λ e. rw e h) λ e. rw e k

  -- where the order is total
  module _ (total : (x y : A) → le x y ≡ false → So (le y x)) where
    ahead-insert : (y x : A) (l : List A) → So (le y x) → Ahead y l → Ahead y (insert le x l)
    ahead-insert y x [] e h = e
    ahead-insert y x (z ∷ l) e h = by_test (le x z) (λ d. rw d e) λ d. rw d h

    insert-ascending : (x : A) (l : List A) → So (ascending le l) → So (ascending le (insert le x l))
    insert-ascending x [] h = refl
    insert-ascending x (y ∷ l) h = by_test (le x y) (λ e. rw e (ascending_cons x (y ∷ l) e h))
        λ e. rw e (ascending_cons y (insert le x l) (ahead-insert y x l (total x y e) (ascending-head y l h)) (insert-ascending x l (ascending-tail y l h)))

    pub sort-ascending : (l : List A) → So (ascending le (sort le l))
    sort-ascending [] = refl
    sort-ascending (x ∷ l) = insert-ascending x (sort le l) (sort-ascending l)

    pub sort-sort : (l : List A) → sort le (sort le l) ≡ sort le l
    sort-sort l = sort_id (sort le l) (sort-ascending l)

    -- two elements in front of the same list, in their order
    pair : (x y : A) → (So (le x y) → So (le y x) → x ≡ y) → (l : List A)
        → cond (le x y) (x ∷ y ∷ l) (y ∷ x ∷ l) ≡ cond (le y x) (y ∷ x ∷ l) (x ∷ y ∷ l)
    pair x y anti l = by_test (le x y)
        (λ p. by_test (le y x) (λ q. rw (p, q) (λ i. anti p q i ∷ sym (anti p q) i ∷ l)) (λ q. rw (p, q)))
        λ p. rw (p, total x y p)

    -- and transitive
    module _ (trans : (x y z : A) → So (le x y) → So (le y z) → So (le x z)) where
      merge-past : (x : A) (xs : List A) (y : A) (ys : List A) → So (ascending le (x ∷ xs)) → le x y ≡ false → merge le xs (y ∷ ys) ≡ y ∷ merge le xs ys
      merge-past x [] y ys h e = refl
      merge-past x (z ∷ xs) y ys h e = rw (not_so (le z y) λ d. false≢true (sym e ∙ trans x z y (ascending-head x (z ∷ xs) h) d))

      merge-insert : (x : A) (xs ys : List A) → So (ascending le (x ∷ xs)) → merge le (x ∷ xs) ys ≡ insert le x (merge le xs ys)
      merge-insert x xs [] h = sym (insert-ahead x (merge le xs []) (merge-ahead x xs [] (ascending-head x xs h) tt))
      merge-insert x xs (y ∷ ys) h = by_test (le x y)
          (λ e. rw e (sym (insert-ahead x (merge le xs (y ∷ ys)) (merge-ahead x xs (y ∷ ys) (ascending-head x xs h) e))))
          λ e. rw (merge-past x xs y ys h e, e) (ap {B = List A} (λ r. y ∷ r) (merge-insert x xs ys h))

      merge_insert_all : (xs ys : List A) → So (ascending le xs) → merge le xs ys ≡ insert_all xs ys
      merge_insert_all [] ys h = refl
      merge_insert_all (x ∷ xs) ys h = merge-insert x xs ys h ∙ ap (insert le x) (merge_insert_all xs ys (ascending-tail x xs h))

      -- merging two ascending lists sorts what they hold
      pub merge-sort : (xs ys : List A) → So (ascending le xs) → So (ascending le ys) → merge le xs ys ≡ sort le (xs ++ ys)
      merge-sort xs ys h k = merge_insert_all xs ys h ∙ ap (insert_all xs) (sym (sort_id ys k)) ∙ sym (sort_append xs ys)

      -- the order of two insertions does not matter
      swap : (x y : A) → (So (le x y) → So (le y x) → x ≡ y) → (l : List A) → insert le x (insert le y l) ≡ insert le y (insert le x l)
      swap x y anti [] = pair x y anti []
      swap x y anti (z ∷ l) = by_test (le x z)
          (λ p. by_test (le y z) (λ q. simp (p, q) (pair x y anti (z ∷ l))) (λ q. simp (p, q, not_so (le y x) (λ r. false≢true (sym q ∙ trans y x z r p)))))
          λ p. by_test (le y z) (λ q. simp (p, q, not_so (le x y) (λ r. false≢true (sym p ∙ trans x y z r q))))
          λ q. simp (p, q) (ap {B = List A} (λ r. z ∷ r) (swap x y anti l))

      -- and antisymmetric on the elements that have P
      module _ (P : A → Type 0) (anti : (x y : A) → P x → P y → So (le x y) → So (le y x) → x ≡ y) where
        insert_under : (xs : List A) (y : A) (l : List A) → All P xs → P y → insert_all xs (insert le y l) ≡ insert le y (insert_all xs l)
        insert_under [] y l p q = refl
        insert_under (x ∷ xs) y l p q = ap (insert le x) (insert_under xs y l p.1 q) ∙ swap x y (anti x y p.0 q) (insert_all xs l)

        -- which of two lists comes first does not matter
        pub sort_comm : (xs ys : List A) → All P xs → All P ys → sort le (xs ++ ys) ≡ sort le (ys ++ xs)
        sort_comm xs [] p q = ap (sort le) (append-nil xs)
        sort_comm xs (y ∷ ys) p q = sort_append xs (y ∷ ys) ∙ insert_under xs y (sort le ys) p q.0
            ∙ ap (insert le y) (sym (sort_append xs ys) ∙ sort_comm xs ys p q.1)

        -- only the elements of the first part count, not their order
        pub sort-left : (xs ys zs : List A) → All P xs → All P ys → All P zs → sort le xs ≡ sort le ys → sort le (xs ++ zs) ≡ sort le (ys ++ zs)
        sort-left xs ys zs p q r e = sort_comm xs zs p r ∙ sort-right zs xs ys e ∙ sort_comm zs ys r q
