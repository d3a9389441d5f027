-- Groups of a CC (01, "Terminators"): runs of canceled lots and of the lots that replace them, and checks 20 and 21.
use Rattle.std.specs.Prelude.{List, [], ◌∷◌, ◌++◌, Bool, cond, not, ◌&&◌, ◌||◌, length, eqb, leb}
use Rattle.lists.specs.Lists.{sum_of, all}
use Rattle.layout.specs.declared.Detail.{Detail}
use Rattle.terminator.specs.declared.Kind.{Kind}
use Rattle.terminator.specs.declared.Kind.TheVariants.{Good, Odd, Bad}
use Rattle.terminator.specs.Terminators.{is_canceled, is_good, is_odd}
use Rattle.terminator.specs.Lots.{Lot, lot_kind, lot_millions, lots}

-- a group: a run of 6 lots, then a run of 7 lots
pub record Group : Type 0 where
  pub canceled : List Lot
  pub replacement : List Lot

-- a 6 lot has the 6 on its end, as on all its pools (19)
abbrev pub lot_canceled : Lot → Bool
lot_canceled l = is_canceled l.last

-- the groups of a list of lots, where os and ns are the 6 and the 7 lots of the group at hand: a 6 lot after a 7 lot begins the next group
abbrev pub groups_from : List Lot → List Lot → List Lot → List Group
groups_from os ns [] = record { canceled = os; replacement = ns } ∷ []
groups_from os [] (l ∷ ls) = cond (lot_canceled l) (groups_from (os ++ (l ∷ [])) [] ls) (groups_from os (l ∷ []) ls)
groups_from os (n ∷ ns) (l ∷ ls) =
    cond (lot_canceled l)
    (record { canceled = os; replacement = n ∷ ns } ∷ groups_from (l ∷ []) [] ls)
    (groups_from os ((n ∷ ns) ++ (l ∷ [])) ls)

unfoldable pub groups : List Detail → List Group
groups ds = groups_from [] [] (lots ds)

abbrev pub same_kind : Kind → Kind → Bool
same_kind Good k = is_good k
same_kind Odd k = is_odd k
same_kind Bad k = not (is_good k || is_odd k)

-- whether all lots have the kind
abbrev pub of_kind : Kind → List Lot → Bool
of_kind k = all (λ (l : Lot). same_kind k (lot_kind l))

-- 20: at least one of each, all of one kind, and just one of each where odd or bad
abbrev pub group_formed : Group → Bool
group_formed g =
    (leb 1 (length g.canceled) && leb 1 (length g.replacement))
    && ((of_kind Good g.canceled && of_kind Good g.replacement)
    || ((eqb (length g.canceled) 1 && eqb (length g.replacement) 1)
    && ((of_kind Odd g.canceled && of_kind Odd g.replacement) || (of_kind Bad g.canceled && of_kind Bad g.replacement))))

unfoldable pub groups_formed : List Detail → Bool
groups_formed ds = all group_formed (groups ds)

-- 21: in a good group both runs' millions sum alike (other lots have none)
abbrev pub group_balanced : Group → Bool
group_balanced g = eqb (sum_of lot_millions g.canceled) (sum_of lot_millions g.replacement)

unfoldable pub groups_balanced : List Detail → Bool
groups_balanced ds = all group_balanced (groups ds)
