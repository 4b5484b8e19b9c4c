pub mod Oneway
