pub mod Pars
